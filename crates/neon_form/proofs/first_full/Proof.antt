-- first_full reads the bit of a form code that says whether the first source is read at 128 bits
use Rattle.neon_form.proofs.Parts.{parts}
use Rattle.neon_form.proofs.first_full.Statement.{statement}
use Rattle.neon_form.proofs.first_full.Tie as tie

returns : tie.Need-returns
returns c = λ o v h e. (parts _ o v h e).first

pub first_full_spec : {M : Type 1} → statement M
first_full_spec = tie.close (tie.spec returns)
