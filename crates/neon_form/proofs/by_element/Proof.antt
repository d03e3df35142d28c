-- the class of immediate that a form code has says whether the second source is an element
use Rattle.neon.specs.Form.{form}
use Rattle.neon_form.proofs.Parts.{parts, element-row}
use Rattle.neon_form.proofs.by_element.Statement.{statement}
use Rattle.neon_form.proofs.by_element.Tie as tie

returns : tie.Need-returns
returns c = λ o v h e. rw (parts _ o v h e).row (element-row (form o).immediate)

pub by_element_spec : {M : Type 1} → statement M
by_element_spec = tie.close (tie.spec returns)
