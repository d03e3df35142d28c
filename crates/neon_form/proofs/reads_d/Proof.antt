-- reads_d reads the bit of a form code that says whether d is read
use Rattle.neon_form.proofs.Parts.{parts}
use Rattle.neon_form.proofs.reads_d.Statement.{statement}
use Rattle.neon_form.proofs.reads_d.Tie as tie

returns : tie.Need-returns
returns c = λ o v h e. (parts _ o v h e).old

pub reads_d_spec : {M : Type 1} → statement M
reads_d_spec = tie.close (tie.spec returns)
