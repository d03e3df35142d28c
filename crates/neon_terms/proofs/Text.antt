-- The text of an instruction's node is `display` of its tree: the theorem of specs/Demand.antt. Assumes nothing.
use mathlib.Core.Path.{◌≡◌, sym, ap, ◌∙◌, subst}
use mathlib.Core.List.{List, ◌++◌}
use Prim.Native.Nat.{ℕ}
use lib.Dec.{leb}
use lib.ListN.{length, drop}
use Rattle.facts.specs.Refuse.{by_number, list_by, unless}
use Rattle.terms.specs.Display.{display}
use Rattle.pool_check.proofs.Number.{good-node}
use Rattle.text_parts.specs.Text.{text}
use Rattle.text.specs.Answer.{text_number}
use Rattle.neon_terms.specs.Demand.{InstructionText}

-- what is said of a text s
abbrev Shown : (buffer : List ℕ) (number len : ℕ) (out s : List ℕ) → Type 0
Shown buffer number len out s =
    (number ≡ unless (leb (length s) (length buffer)) 9 0) × (number ≡ 0 → (len ≡ length s) × (out ≡ s ++ drop (length s) buffer))

pub instruction-text : InstructionText
unfolding text
instruction-text old count new l operation arrangement i d n m a z buffer number len out h =
    let done = a.done z in
    let t = text new l.node in
    let asked = text_number new l.count l.node (length buffer) in
    let is : asked ≡ unless (leb (length t) (length buffer)) 9 0 = good-node new l.count l.node _ done.checked done.is.under in
    subst (Shown buffer number len out) (ap display done.is.tree) (
      h.number_is ∙ is,
      λ e.
          let none : asked ≡ 0 = sym h.number_is ∙ e in
          (h.length_is ∙ ap (λ (k : ℕ). by_number k (length t)) none, h.buffer_is ∙ ap (λ (k : ℕ). list_by k t buffer) none),
    )
