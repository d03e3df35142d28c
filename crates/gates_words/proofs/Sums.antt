-- Numbers by their bits: bounds, parts, inversion, the bits of a number. Assumes nothing.
use mathlib.Core.Path.{◌≡◌, refl, sym, ap}
use mathlib.Core.Bool.{Bool, true, false, not}
use Prim.Native.Nat.{ℕ, zero, suc, ◌+◌, ◌-◌, ◌*◌, ◌/◌, ◌%◌, ◌^◌, ◌≤◌, ◌<◌}
use native.Mathlib.Nat.{pow-suc, add-zero, add-suc, add-mul, mul_assoc, mul_comm, mod-one}
use native.Mathlib.Omega.{arith}
use lib.Dec.{eqb}
use lib.Pow.{pow-add, high, low, mod-pow-add}
use borrow.Author.Tests.{eqb-true, eqb-false}
use Rattle.terms.specs.Value.{bit, msb}
use Rattle.gates_words.specs.Number.{sum}

pub bit-small : (b : Bool) → bit b ≤ 1
bit-small true = omega arith
bit-small false = omega arith

top_lt : (b : Bool) (s w : ℕ) → s < 2 ^ w → s + bit b * 2 ^ w < 2 ^ suc w
top_lt true s w h = omega (arith, pow-suc 2 w)
top_lt false s w h = omega (arith, pow-suc 2 w)

pub sum_lt : (f : ℕ → Bool) (w : ℕ) → sum f w < 2 ^ w
unfolding sum
sum_lt f zero = omega arith
sum_lt f (suc w) = top_lt (f w) (sum f w) w (sum_lt f w)

-- one bit more, at the top
pub sum-next : (f : ℕ → Bool) (w : ℕ) → sum f (w + 1) ≡ sum f w + bit (f w) * 2 ^ w
unfolding sum
sum-next f w = ap (sum f) {x = w + 1} {y = suc w} (omega arith)

pub sum_same : (f h : ℕ → Bool) (w : ℕ) → ((j : ℕ) → j < w → f j ≡ h j) → sum f w ≡ sum h w
unfolding sum
sum_same f h zero e = refl
sum_same f h (suc w) e = λ i. sum_same f h w (λ j l. e j (omega arith)) i + bit (e w (omega arith) i) * 2 ^ w

-- the bits from n on count 2 ^ n times as much
pub sum-parts : (f : ℕ → Bool) (n m : ℕ) → sum f (n + m) ≡ sum (λ j. f (n + j)) m * 2 ^ n + sum f n
unfolding sum
sum-parts f n zero = rw (add-zero n) (omega arith)
sum-parts f n (suc m) =
    let p : bit (f (n + m)) * 2 ^ (n + m) ≡ bit (f (n + m)) * 2 ^ m * 2 ^ n =
    rw (pow-add 2 n m, mul_comm (2 ^ n) (2 ^ m), mul_assoc (bit (f (n + m))) (2 ^ m) (2 ^ n)) in
    rw (add-suc n m, add-mul (sum (λ j. f (n + j)) m) (bit (f (n + m)) * 2 ^ m) (2 ^ n)) (omega (arith, sum-parts f n m, p))

pub sum-high : (f : ℕ → Bool) (n m : ℕ) → sum f (n + m) / 2 ^ n ≡ sum (λ j. f (n + j)) m
sum-high f n m = rw (sum-parts f n m) (high (sum (λ j. f (n + j)) m) n (sum_lt f n))

pub sum_low : (f : ℕ → Bool) (n m : ℕ) → sum f (n + m) % 2 ^ n ≡ sum f n
sum_low f n m = rw (sum-parts f n m) (low (sum (λ j. f (n + j)) m) n (sum_lt f n))

pub sum-none : (f : ℕ → Bool) (w : ℕ) → ((j : ℕ) → j < w → f j ≡ false) → sum f w ≡ 0
unfolding sum
sum-none f zero e = refl
sum-none f (suc w) e = rw (sum-none f w (λ j l. e j (omega arith)), e w (omega arith)) (omega arith)

-- inverted bits
not-next : (b : Bool) (s t p q : ℕ) → t + s + 1 ≡ p → q ≡ p * 2 → t + bit (not b) * p + (s + bit b * p) + 1 ≡ q
not-next true s t p q e d = omega arith
not-next false s t p q e d = omega arith

pub sum-not : (f : ℕ → Bool) (w : ℕ) → sum (λ j. not (f j)) w + sum f w + 1 ≡ 2 ^ w
unfolding sum
sum-not f zero = refl
sum-not f (suc w) = not-next (f w) (sum f w) (sum (λ j. not (f j)) w) (2 ^ w) (2 ^ suc w) (sum-not f w) (pow-suc 2 w)

-- the highest bit
pub bit-even : (b : Bool) → bit b % 2 ≡ bit b
bit-even true = refl
bit-even false = refl

pub sum_top : (f : ℕ → Bool) (w : ℕ) → 1 ≤ w → msb w (sum f w) ≡ bit (f (w - 1))
unfolding sum msb
sum_top f zero h = absurd (omega (arith, h))
sum_top f (suc w) h =
    let e : suc w - 1 ≡ w = omega arith in
    let c : sum f w + bit (f w) * 2 ^ w ≡ bit (f w) * 2 ^ w + sum f w = omega arith in
    rw (e, c, high (bit (f w)) w (sum_lt f w)) (bit-even (f w))

-- the bits of a number
odd-bit : (n : ℕ) → bit (eqb (n % 2) 1) ≡ n % 2
odd-bit n = go (eqb (n % 2) 1) refl
  where
    go : (b : Bool) → eqb (n % 2) 1 ≡ b → bit b ≡ n % 2
    go true e = omega (arith, eqb-true (n % 2) 1 e)
    go false e = let h = eqb-false (n % 2) 1 e in omega arith

pub sum_number : (n w : ℕ) → sum (λ j. eqb (n / 2 ^ j % 2) 1) w ≡ n % 2 ^ w
unfolding sum
sum_number n zero = sym (mod-one n)
sum_number n (suc w) =
    let e : suc w ≡ 1 + w = omega arith in
    rw (sum_number n w, odd-bit (n / 2 ^ w), e, mod-pow-add n 1 w) (omega arith)
