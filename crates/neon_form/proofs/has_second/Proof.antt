-- has_second reads the bit of a form code that says whether there is a second source
use Rattle.neon_form.proofs.Parts.{parts}
use Rattle.neon_form.proofs.has_second.Statement.{statement}
use Rattle.neon_form.proofs.has_second.Tie as tie

returns : tie.Need-returns
returns c = λ o v h e. (parts _ o v h e).second

pub has_second_spec : {M : Type 1} → statement M
has_second_spec = tie.close (tie.spec returns)
