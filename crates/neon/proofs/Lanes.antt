-- Lanes put together, as one number, and taken out again. Assumes nothing.
use mathlib.Core.Path.{◌≡◌, refl, ap, ap₂, ◌∙◌}
use mathlib.Core.Bool.{Bool, true, false}
use Prim.Native.Nat.{ℕ, zero, suc, ◌+◌, ◌-◌, ◌*◌, ◌/◌, ◌%◌, ◌^◌, ◌≤◌, ◌<◌}
use native.Mathlib.Nat.{mul-suc, mul-zero, mod-eq_of_lt, mul-add-div_right, mul-add-mod_self_right, mul_comm}
use native.Mathlib.Omega.{arith}
use borrow.Author.Tests.{ltb-true, ltb-false}
use lib.Dec.{ltb}
use lib.Arith.{digits_div, digits_lt}
use lib.Pow.{pow_pos, pow-add}
use Rattle.neon.specs.Arm.{lane, lanes}

-- lanes that agree make one number
pub lanes-eq : (n k : ℕ) (f g : ℕ → ℕ) → ((j : ℕ) → j < k → f j ≡ g j) → lanes n k f ≡ lanes n k g
unfolding lanes
lanes-eq n zero f g h = refl
lanes-eq n (suc k) f g h = ap₂ (λ (x y : ℕ). x * 2 ^ (n * k) + y) (h k (omega arith)) (lanes-eq n k f g (λ j l. h j (omega arith)))

pub lanes-lt : (n k : ℕ) (f : ℕ → ℕ) → ((j : ℕ) → f j < 2 ^ n) → lanes n k f < 2 ^ (n * k)
unfolding lanes
lanes-lt n zero f h = rw (mul-zero n) (omega arith)
lanes-lt n (suc k) f h =
    rw (mul-suc n k, pow-add 2 (n * k) n, mul_comm (2 ^ (n * k)) (2 ^ n)) (digits_lt (h k) (lanes-lt n k f h))

-- what `lanes` means: lane j of it is f j
module _ (n k : ℕ) (f : ℕ → ℕ) (h : (j : ℕ) → f j < 2 ^ n) (j : ℕ) where
  above : j < k → f k * 2 ^ (n * k) ≡ f k * 2 ^ (n * (k - suc j)) * 2 ^ n * 2 ^ (n * j)
  above g =
      ap (λ (t : ℕ). f k * 2 ^ t) parts ∙ ap (λ (t : ℕ). f k * t) (pow-add 2 (n * (k - suc j) + n) (n * j) ∙ ap (λ (t : ℕ). t * 2 ^ (n * j)) (pow-add 2 (n * (k - suc j)) n))
      ∙ omega arith
    where
      regroup : (a : ℕ) → n * (a + 1 + j) ≡ n * a + n + n * j
      regroup a = omega arith

      parts : n * k ≡ n * (k - suc j) + n + n * j
      parts = ap (λ (t : ℕ). n * t) (omega arith) ∙ regroup (k - suc j)

  lane-step : j ≤ k → (j < k → lane n j (lanes n k f) ≡ f j) → lane n j (lanes n (suc k) f) ≡ f j
  unfolding lane lanes
  lane-step l ih = go (ltb j k) refl
    where
      go : (t : Bool) → ltb j k ≡ t → (f k * 2 ^ (n * k) + lanes n k f) / 2 ^ (n * j) % 2 ^ n ≡ f j
      go true e =
          rw (above (ltb-true j k e), mul-add-div_right (pow_pos (n * j)) (f k * 2 ^ (n * (k - suc j)) * 2 ^ n) (lanes n k f))
          (mul-add-mod_self_right (f k * 2 ^ (n * (k - suc j))) (2 ^ n) (lanes n k f / 2 ^ (n * j)) ∙ ih (ltb-true j k e))
      go false e =
          let same : j ≡ k = omega (arith, ltb-false j k e) in
          rw same (ap (λ (t : ℕ). t % 2 ^ n) (digits_div (f k) (lanes-lt n k f h)) ∙ mod-eq_of_lt (h k))

pub lane-of-lanes : (n k : ℕ) (f : ℕ → ℕ) → ((j : ℕ) → f j < 2 ^ n) → (j : ℕ) → j < k → lane n j (lanes n k f) ≡ f j
lane-of-lanes n zero f h j l = absurd (omega arith)
lane-of-lanes n (suc k) f h j l = lane-step n k f h j (omega arith) (λ g. lane-of-lanes n k f h j g)
