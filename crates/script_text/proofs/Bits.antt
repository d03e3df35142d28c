-- The bits of two words. Assumes nothing.
use mathlib.Core.Path.{◌≡◌, sym, ap, ◌∙◌}
use Prim.Native.Nat.{ℕ, zero, suc, ◌+◌, ◌-◌, ◌*◌, ◌/◌, ◌%◌, ◌^◌, ◌≤◌, ◌<◌}
use native.Mathlib.Nat.{add-mul-div_left, div-div-eq-div-mul, div-eq_of_lt}
use native.Mathlib.Omega.{arith}
use native.Mathlib.Numerals.{add-one}
use mathlib.Core.List.{List}
use lib.ListN.{set}
use lib.Seq.{sets}
use lib.Pow.{pow-add, pow_pos}
use Rattle.script_meaning.specs.Script.{binary}
use Rattle.pool.specs.Node.{wide}

split : (k : ℕ) → k < 64 → 18446744073709551616 ≡ 2 ^ k * (2 * 2 ^ (63 - k))
split k h = ap (λ (n : ℕ). 2 ^ n) {x = 64} {y = k + suc (63 - k)} (omega arith) ∙ pow-add 2 k (suc (63 - k)) ∙ ap (λ (x : ℕ). 2 ^ k * x) (omega arith)

turn : (p q h : ℕ) → p * (2 * q) * h ≡ p * (2 * (q * h))
turn p q h = omega arith

even : (a b : ℕ) → (a + 2 * b) % 2 ≡ a % 2
even a b = omega arith

pub low_bit : (low high k : ℕ) → k < 64 → wide low high / 2 ^ k % 2 ≡ low / 2 ^ k % 2
low_bit low high k h =
    let p = 2 ^ k in
    let q = 2 ^ (63 - k) in
    ap (λ (x : ℕ). (low + x * high) / p % 2) (split k h)
    ∙ ap (λ (x : ℕ). (low + x) / p % 2) (turn p q high)
    ∙ ap (λ (x : ℕ). x % 2) (add-mul-div_left low (2 * (q * high)) (pow_pos k))
    ∙ even (low / p) (q * high)

pub high_part : (low high k : ℕ) → low < 18446744073709551616 → 64 ≤ k → wide low high / 2 ^ k ≡ high / 2 ^ (k - 64)
high_part low high k l h =
    let e : wide low high / 18446744073709551616 ≡ high = omega arith in
    ap (λ (n : ℕ). wide low high / 2 ^ n) {x = k} {y = 64 + (k - 64)} (omega arith)
    ∙ ap (λ (x : ℕ). wide low high / x) (pow-add 2 64 (k - 64))
    ∙ sym (div-div-eq-div-mul (wide low high) 18446744073709551616 (2 ^ (k - 64)))
    ∙ ap (λ (x : ℕ). x / 2 ^ (k - 64)) e

pub top_bit : (low high : ℕ) → low < 18446744073709551616 → high < 18446744073709551616 → wide low high / 2 ^ 128 % 2 ≡ 0
top_bit low high l h = ap (λ (x : ℕ). x % 2) (high_part low high 128 l (omega arith) ∙ div-eq_of_lt h)

-- the next of the digits that are left
pub next_bit : (buf : List ℕ) (i k v x : ℕ) → 0 < k → x ≡ 48 + v / 2 ^ (k - 1) % 2 → sets (set buf i x) (i + 1) (binary (k - 1) v) ≡ sets buf i (binary k v)
unfolding binary
next_bit buf i zero v x h e = absurd (omega arith)
next_bit buf i (suc k) v x h e =
    let q : suc k - 1 ≡ k = omega arith in
    let f : x ≡ 48 + v / 2 ^ k % 2 = e ∙ ap (λ (j : ℕ). 48 + v / 2 ^ j % 2) q in
    ap (λ (j : ℕ). sets (set buf i x) (i + 1) (binary j v)) q
    ∙ ap (λ (j : ℕ). sets (set buf i x) j (binary k v)) (add-one i)
    ∙ ap (λ (y : ℕ). sets (set buf i y) (suc i) (binary k v)) f
