-- How long the texts of a refusal are. Assumes nothing.
use mathlib.Core.Bool.{Bool, true, false}
use mathlib.Core.Path.{◌≡◌, refl}
use Prim.Native.Nat.{ℕ, zero, suc, ◌+◌, ◌*◌, ◌/◌, ◌≤◌, ◌<◌}
use native.Mathlib.Omega.{arith}
use lib.Dec.{ltb}
use lib.ListN.{length}
use borrow.Author.Tests.{ltb-true, ltb-false}
use Rattle.terms.specs.Display.{decimal}
use Rattle.text_digits.proofs.Laws.{length_more}
use Rattle.text_digits.proofs.Lengths.{decimal-one}

-- ten to the k + 1
tens : ℕ → ℕ
tens zero = 10
tens (suc k) = 10 * tens k

one_more : (x : ℕ) → 10 ≤ x → length (decimal x) ≡ length (decimal (x / 10)) + 1
unfolding decimal
one_more x h = length_more 10 x (omega arith) h

longer : (k x : ℕ) → (x / 10 < tens k → length (decimal (x / 10)) ≤ suc k) → x < 10 * tens k → length (decimal x) ≤ suc (suc k)
longer k x shorter h = go (ltb x 10) refl
  where
    go : (t : Bool) → ltb x 10 ≡ t → length (decimal x) ≤ suc (suc k)
    go true e = omega (arith, decimal-one x (ltb-true x 10 e))
    go false e = let l : x / 10 < tens k = omega (arith, h) in omega (arith, one_more x (ltb-false x 10 e), shorter l)

decimal-short : (k x : ℕ) → x < tens k → length (decimal x) ≤ suc k
unfolding tens
decimal-short zero x h = omega (arith, decimal-one x h)
decimal-short (suc k) x h = longer k x (λ l. decimal-short k (x / 10) l) h

-- a word of 64 bits has at most 20 digits
pub word-short : (x : ℕ) → x < 18446744073709551616 → length (decimal x) ≤ 20
unfolding tens
word-short x h = decimal-short 19 x (omega (arith, h))

pub few-short : (x : ℕ) → x < 4 → length (decimal x) ≡ 1
few-short x h = decimal-one x (omega arith)
