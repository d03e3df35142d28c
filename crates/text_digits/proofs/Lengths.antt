-- How long the decimal numbers are. Assumes nothing.
use mathlib.Core.Path.{◌≡◌, refl, ap, ◌∙◌}
use mathlib.Core.Bool.{Bool, true, false}
use Prim.Native.Nat.{ℕ, ◌+◌, ◌/◌, ◌≤◌, ◌<◌}
use native.Mathlib.Omega.{arith}
use lib.Dec.{ltb}
use lib.ListN.{length}
use borrow.Author.Tests.{ltb-true, ltb-false}
use Rattle.terms.specs.Display.{decimal}
use Rattle.text_digits.proofs.Laws.{digits-one, length_more}

pub decimal-one : (x : ℕ) → x < 10 → length (decimal x) ≡ 1
unfolding decimal
decimal-one x h = ap length (digits-one 10 x h)

pub decimal-two : (x : ℕ) → 10 ≤ x → x < 100 → length (decimal x) ≡ 2
unfolding decimal
decimal-two x h l = length_more 10 x (omega arith) h ∙ ap (λ (n : ℕ). n + 1) (decimal-one (x / 10) (omega arith))

pub decimal-three : (x : ℕ) → 100 ≤ x → x < 1000 → length (decimal x) ≡ 3
unfolding decimal
decimal-three x h l = length_more 10 x (omega arith) (omega arith) ∙ ap (λ (n : ℕ). n + 1) (decimal-two (x / 10) (omega arith) (omega arith))

-- a register's number has at most two digits
pub register-short : (r : ℕ) → r < 32 → length (decimal r) ≤ 2
register-short r h = go (ltb r 10) refl
  where
    go : (t : Bool) → ltb r 10 ≡ t → length (decimal r) ≤ 2
    go true e = omega (arith, decimal-one r (ltb-true r 10 e))
    go false e = omega (arith, decimal-two r (ltb-false r 10 e) (omega (arith, h)))
