-- What `text_length` answers, by the way that it took. Assumes nothing.
use mathlib.Core.Bool.{true}
use mathlib.Core.List.{List}
use mathlib.Core.Path.{◌≡◌, sym, ◌∙◌}
use Prim.Native.Nat.{ℕ, ◌+◌, min, ◌<◌}
use lib.ListN.{length}
use Rattle.facts.proofs.Refused.{zero-beside}
use Rattle.pool.specs.Rules.{pool_ok, node_number}
use Rattle.pool_check.proofs.Passed.{words-for, keeps}
use Rattle.text_parts.specs.Text.{text, Ready}
use Rattle.text_parts.proofs.Operands.{ready_of}
use Rattle.text_length.specs.Answer.{Measured}

module _ (ws : List ℕ) (count n : ℕ) where
  pub ready : pool_ok ws count ≡ true → n < count → Ready ws n
  ready h l = ready_of ws count n (keeps ws count h) l (words-for ws count h)

  pub unmeasured : (ceiling : ℕ) {number : ℕ} → number ≡ node_number ws count n 0 → 0 < number → Measured ws count n ceiling number 0
  unmeasured ceiling e h = record { number_is = e; length_is = sym (zero-beside _ _ (rw e at h)) }

  pub measured : (ceiling : ℕ) {number len : ℕ} → number ≡ node_number ws count n 0 → number ≡ 0 → len ≡ min (length (text ws n)) (ceiling + 1)
      → Measured ws count n ceiling number len
  measured ceiling e z l = record { number_is = e; length_is = rw (sym e ∙ z) l }
