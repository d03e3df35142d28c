-- What `write_text` answers, by the way that it took. Assumes nothing.
use mathlib.Core.Bool.{true}
use mathlib.Core.List.{List, ◌++◌}
use mathlib.Core.Path.{◌≡◌, sym, ap, ◌∙◌}
use Prim.Native.Nat.{ℕ, ◌≤◌, ◌<◌}
use native.Mathlib.Nat.{zero-add}
use native.Mathlib.Omega.{arith}
use lib.ListN.{length, drop}
use lib.Seq.{sets-eq}
use borrow.Author.Tests.{le-leb, lt-leb}
use Rattle.pool.specs.Rules.{pool_ok}
use Rattle.pool_check.proofs.Number.{good-node}
use Rattle.text_digits.specs.Writing.{Wrote}
use Rattle.text_parts.specs.Text.{text}
use Rattle.text.specs.Answer.{text_number, Answered}

-- a text at the front of a buffer, and the bytes after it
pub in-front : {old new s : List ℕ} {end : ℕ} → Wrote old 0 s end new → length s ≤ length old → new ≡ s ++ drop (length s) old
in-front {old} {new} {s} w h =
    w.after_is ∙ sets-eq s old 0 (omega arith) ∙ ap (λ (k : ℕ). s ++ drop k old) (zero-add (length s))

module _ (ws : List ℕ) (count n : ℕ) where
  pub short : (room : ℕ) → pool_ok ws count ≡ true → n < count → room < length (text ws n) → text_number ws count n room ≡ 9
  short room h l s = good-node ws count n _ h l ∙ rw (lt-leb (length (text ws n)) room s)

  pub fits : (room : ℕ) → pool_ok ws count ≡ true → n < count → length (text ws n) ≤ room → text_number ws count n room ≡ 0
  fits room h l s = good-node ws count n _ h l ∙ rw (le-leb (length (text ws n)) room s)

  -- a text that was written
  pub written : {old new : List ℕ} {number len : ℕ} → number ≡ 0 → text_number ws count n (length old) ≡ 0 → len ≡ length (text ws n)
      → new ≡ text ws n ++ drop (length (text ws n)) old → Answered ws count n old number len new
  written z e l w = record { number_is = z ∙ sym e; length_is = rw e l; buffer_is = rw e w }
