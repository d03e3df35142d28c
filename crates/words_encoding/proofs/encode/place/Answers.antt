use mathlib.Core.Path.{sym, ◌∙◌}
use native.Mathlib.Omega.{arith}
use Rattle.neon.specs.Form.{form}
use Rattle.neon_form.proofs.Parts.{parts}
use Rattle.words_encoding.proofs.Pieces.{row-none, row-left, row-right, row-element}
use Rattle.words_encoding.proofs.encode.place.Goals as goal

pub returns-in-1 : goal.returns-in-1
returns-in-1 c = (λ o v h e. row-none (form o).immediate _ _ _ _ (sym (parts _ o v h e).row ∙ c.in-1.is), omega arith)

pub returns-in-2 : goal.returns-in-2
returns-in-2 c = (λ o v h e. row-left (form o).immediate _ _ _ _ (sym (parts _ o v h e).row ∙ c.in-2.is), omega arith)

pub returns-in-3 : goal.returns-in-3
returns-in-3 c =
    (λ o v h e. row-right (form o).immediate _ _ _ _ c.saturating_sub.result c.saturating_sub.ensures (sym (parts _ o v h e).row ∙ c.in-3.is), omega arith)

pub returns-in_default : goal.returns-in_default
returns-in_default c =
    let a = c.args in
    let t = c.element_part in (
      λ o v h e.
          let r = (parts a.code o v h e).row in
          row-element (form o).immediate a.bits a.size a.i a.m t.result t.ensures.0 (omega (arith, r)) (omega (arith, r)) (omega (arith, r)),
      omega arith,
    )
