-- Counts of bits, bits reversed, and inserts. Assumes nothing.
use mathlib.Core.Path.{◌≡◌, sym, ap, ap₂, ◌∙◌, subst}
use Prim.Native.Nat.{ℕ, zero, suc, ◌+◌, ◌-◌, ◌*◌, ◌/◌, ◌%◌, ◌^◌, ◌≤◌, ◌<◌}
use native.Mathlib.Omega.{arith}
use native.Mathlib.Nat.{mod-lt, mod-le, add-zero, mul-mod_left, mul-le-mul_right, one-mul, div-add-mod'}
use native.Mathlib.Numerals.{add-one}
use borrow.Author.Tests.{eq-eqb, ne_eqb}
use native.Mathlib.Nat.{pow-suc}
use lib.Pow.{pow_pos, pow-add, pow_mono, shr_lt, shl-shr, mod-pow-add}
use lib.IntN.{pos}
use Rattle.neon.specs.Arm.{wrap, floor, scale, bit_at, ones, equal_run, lanes}

pub ones-more : (j a : ℕ) → ones (j + 1) a ≡ ones j a + bit_at j a
unfolding ones
ones-more j a = rw (add-one j)

pub run-stop : (t j a : ℕ) {b : ℕ} → 0 < j → b ≡ bit_at (j - 1) a → (b ≡ t → ⊥) → equal_run t j a ≡ 0
unfolding equal_run
run-stop t zero a h e n = absurd (omega arith)
run-stop t (suc k) a h e n =
    let same : suc k - 1 ≡ k = omega arith in
    rw (ne_eqb (bit_at k a) t (λ q. n (e ∙ ap (λ (x : ℕ). bit_at x a) same ∙ q)))

pub run_more : (t j a : ℕ) {b : ℕ} → 0 < j → b ≡ bit_at (j - 1) a → b ≡ t → equal_run t j a ≡ suc (equal_run t (j - 1) a)
unfolding equal_run
run_more t zero a h e n = absurd (omega arith)
run_more t (suc k) a h e n =
    let same : suc k - 1 ≡ k = omega arith in
    rw (eq-eqb (bit_at k a) t (ap (λ (x : ℕ). bit_at x a) (sym same) ∙ sym e ∙ n), same)

pub reversed-more : (f : ℕ → ℕ) (j : ℕ) {r b p : ℕ} → r ≡ lanes 1 j f → b ≡ f j → p ≡ 2 ^ j → r + b * p ≡ lanes 1 (j + 1) f
unfolding lanes
reversed-more f j {r} {b} {p} er eb ep = rw (add-one j, one-mul j) (omega (arith, er, ap₂ (λ (x y : ℕ). x * y) eb ep))

pub times-bit : (b p : ℕ) → b ≤ 1 → b * p ≤ p
times-bit b p h = omega (arith, mul-le-mul_right p h)

pub next_power : (j : ℕ) → 2 ^ (j + 1) ≡ 2 * 2 ^ j
next_power j = rw (add-one j) (pow-suc 2 j ∙ omega arith)

-- ---- inserts
module _ (n s a d : ℕ) (h64 : n ≤ 64) where
  pub word : 2 ^ n ≤ 2 ^ 64
  word = pow_mono h64

  raised : s ≤ n → a * 2 ^ s % 2 ^ n ≡ a % 2 ^ (n - s) * 2 ^ s
  raised h =
      ap (λ (t : ℕ). a * 2 ^ s % 2 ^ t) {x = n} {y = n - s + s} (omega arith) ∙ mod-pow-add (a * 2 ^ s) (n - s) s
      ∙ ap₂ (λ (x t : ℕ). x % 2 ^ (n - s) * 2 ^ s + t) (shl-shr a s) (mul-mod_left a (2 ^ s)) ∙ add-zero (a % 2 ^ (n - s) * 2 ^ s)

  pub left-fits : s ≤ n → wrap n (scale (pos a) s) + d % 2 ^ s < 2 ^ n
  unfolding wrap
  left-fits h =
      let whole : 2 ^ n ≡ 2 ^ (n - s) * 2 ^ s = ap (λ (t : ℕ). 2 ^ t) (omega arith) ∙ pow-add 2 (n - s) s in
      let less : (a % 2 ^ (n - s) + 1) * 2 ^ s ≤ 2 ^ (n - s) * 2 ^ s = mul-le-mul_right (2 ^ s) (omega (arith, mod-lt a (pow_pos (n - s)))) in
      omega (arith, raised h, whole, less, mod-lt d (pow_pos s))

  pub right-fits : s ≤ n → a < 2 ^ n → d < 2 ^ n → d - d % 2 ^ (n - s) + wrap n (floor (pos a) s) < 2 ^ n
  unfolding wrap
  right-fits h la ld =
      let whole : 2 ^ n ≡ 2 ^ s * 2 ^ (n - s) = ap (λ (t : ℕ). 2 ^ t) (omega arith) ∙ pow-add 2 s (n - s) in
      let top : d / 2 ^ (n - s) < 2 ^ s = shr_lt s (n - s) (subst (λ (t : ℕ). d < 2 ^ t) {x = n} {y = s + (n - s)} (omega arith) ld) in
      let low : a / 2 ^ s < 2 ^ (n - s) = shr_lt (n - s) s (subst (λ (t : ℕ). a < 2 ^ t) {x = n} {y = n - s + s} (omega arith) la) in
      let less : (d / 2 ^ (n - s) + 1) * 2 ^ (n - s) ≤ 2 ^ s * 2 ^ (n - s) = mul-le-mul_right (2 ^ (n - s)) (omega arith) in
      omega (arith, whole, less, low, mod-le (a / 2 ^ s) (2 ^ n), div-add-mod' d (2 ^ (n - s)))

  pub right_is : (x : ℕ) → d - d % 2 ^ (n - s) + x ≡ d / 2 ^ (n - s) * 2 ^ (n - s) + x
  right_is x = omega (arith, div-add-mod' d (2 ^ (n - s)))
