-- Numbers and powers of two. Assumes nothing.
use mathlib.Core.Bool.{Bool, true, false}
use mathlib.Core.Logic.{◌⊎◌, inl, inr}
use mathlib.Core.Path.{◌≡◌, refl, ap, ◌∙◌}
use Prim.Native.Nat.{ℕ, zero, suc, ◌-◌, ◌*◌, ◌^◌, ◌%◌, ◌≤◌, ◌<◌}
use native.Mathlib.Nat.{pow-suc, one-mul, mod-eq_of_lt}
use native.Mathlib.Omega.{arith}
use lib.Dec.{ltb}
use lib.Pow.{pow_mono, pow-lt, pow-add}
use borrow.Author.Tests.{ltb-true, ltb-false}

pub before-or-from : (x k : ℕ) → (x < k) ⊎ (k ≤ x)
before-or-from x k = go (ltb x k) refl
  where
    go : (b : Bool) → ltb x k ≡ b → (x < k) ⊎ (k ≤ x)
    go true e = inl (ltb-true x k e)
    go false e = inr (ltb-false x k e)

-- the third of three numbers is not the first or the second
pub not_third : (k : ℕ) → (k ≡ 0) ⊎ (k ≡ 1) → k ≡ 2 → ⊥
not_third k (inl e) q = omega (arith, e, q)
not_third k (inr e) q = omega (arith, e, q)

pub below : (n : ℕ) → n < 2 ^ n
below zero = omega arith
below (suc n) = omega (arith, below n, pow-suc 2 n)

-- a number of at most n fits in n bits and more
pub small : (n k w : ℕ) → k ≤ n → n ≤ w → k < 2 ^ w
small n k w h l = omega (arith, below n, pow_mono l)

-- half of 2 ^ i fits in i bits and more
pub half-fits : (i w : ℕ) → 1 ≤ i → i ≤ w → 2 ^ (i - 1) < 2 ^ w
half-fits i w h l = pow-lt (omega arith)

-- 1 << k in a word
pub shifted : (k : ℕ) → k < 64 → (1 * 2 ^ k) % 18446744073709551616 ≡ 2 ^ k
shifted k h = rw (one-mul (2 ^ k)) (mod-eq_of_lt (pow-lt {j = 64} h))

-- 2^wide as a multiple of 2^64
pub high-power : (wide : ℕ) → 64 ≤ wide → 2 ^ wide ≡ 18446744073709551616 * 2 ^ (wide - 64)
high-power wide h = ap (λ (n : ℕ). 2 ^ n) (omega arith) ∙ pow-add 2 64 (wide - 64)
