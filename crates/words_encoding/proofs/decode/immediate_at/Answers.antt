use mathlib.Core.Path.{sym, ◌∙◌}
use native.Mathlib.Omega.{arith}
use Rattle.neon.specs.Form.{form}
use Rattle.neon_form.proofs.Parts.{parts}
use Rattle.words_encoding.proofs.Pieces.{at_none, at_left, at_right, at-element}
use Rattle.words_encoding.proofs.decode.immediate_at.Goals as goal

pub returns-in-1 : goal.returns-in-1
returns-in-1 c = λ o v h e. at_none (form o).immediate _ _ (sym (parts _ o v h e).row ∙ c.in-1.is)

pub returns-in-2 : goal.returns-in-2
returns-in-2 c = λ o v h e. at_left (form o).immediate _ _ _ c.saturating_sub.ensures (sym (parts _ o v h e).row ∙ c.in-2.is)

pub returns-in-3 : goal.returns-in-3
returns-in-3 c = λ o v h e. at_right (form o).immediate _ _ _ c.saturating_sub-in-3.ensures (sym (parts _ o v h e).row ∙ c.in-3.is)

pub returns-in_default : goal.returns-in_default
returns-in_default c = λ o v h e.
    let r = (parts c.args.code o v h e).row in
    at-element (form o).immediate _ _ c.element_at.result c.element_at.ensures (omega (arith, r)) (omega (arith, r)) (omega (arith, r))
