-- How many hexadecimal digits a number has, by the place of its highest bit. Assumes nothing.
use mathlib.Core.Bool.{Bool, true, false}
use mathlib.Core.Path.{◌≡◌, refl, sym, ap, ◌∙◌, subst}
use Prim.Native.Nat.{ℕ, zero, suc, ◌+◌, ◌*◌, ◌-◌, ◌/◌, ◌^◌, ◌≤◌, ◌<◌}
use native.Mathlib.Nat.{le_refl, le_trans, lt_of_lt_of_le, mul-le-mul_left, add-suc}
use native.Mathlib.Omega.{arith}
use lib.Count.{count_leading_zeros, leading_top}
use lib.Dec.{ltb}
use lib.ListN.{length}
use lib.Pow.{pow_pos, pow_mono, pow-add}
use borrow.Author.Tests.{ltb-true, ltb-false}
use Rattle.terms.specs.Display.{hexadecimal}
use Rattle.pool.specs.Node.{wide}
use Rattle.text_digits.proofs.Laws.{digits, digits-one, length_more}

small : (j x : ℕ) → j < 4 → x < 2 ^ suc j → length (digits 16 x) ≡ j / 4 + 1
small j x h b =
    let l : suc j ≤ 4 = omega arith in
    ap length (digits-one 16 x (lt_of_lt_of_le b (pow_mono l))) ∙ omega arith

-- a digit is four bits
by-top : (f j x : ℕ) → j ≤ f → 2 ^ j ≤ x → x < 2 ^ suc j → length (digits 16 x) ≡ j / 4 + 1
by-top zero j x l a b = small j x (omega arith) b
by-top (suc f) j x l a b = go (ltb j 4) refl (λ i h. by-top f i (x / 16) h)
  where
    go : (t : Bool) → ltb j 4 ≡ t → ((i : ℕ) → i ≤ f → 2 ^ i ≤ x / 16 → x / 16 < 2 ^ suc i → length (digits 16 (x / 16)) ≡ i / 4 + 1)
        → length (digits 16 x) ≡ j / 4 + 1
    go true e ih = small j x (ltb-true j 4 e) b
    go false e ih =
        let h : 4 ≤ j = ltb-false j 4 e in
        let i : j ≡ j - 4 + 4 = omega arith in
        let k : suc j ≡ suc (j - 4) + 4 = omega arith in
        let p : 2 ^ j ≡ 2 ^ (j - 4) * 16 = ap (λ (z : ℕ). 2 ^ z) i ∙ pow-add 2 (j - 4) 4 in
        let q : 2 ^ suc j ≡ 2 ^ suc (j - 4) * 16 = ap (λ (z : ℕ). 2 ^ z) k ∙ pow-add 2 (suc (j - 4)) 4 in
        let g : 16 ≤ x = omega (arith, a, p, pow_pos (j - 4)) in
        let r = ih (j - 4) (omega arith) (omega (arith, a, p)) (omega (arith, b, q)) in
        omega (arith, length_more 16 x (omega arith) g, r, h)

-- a word, and two words of which the high one is not 0
pub word-digits : (x : ℕ) → 0 < x → x < 18446744073709551616 → ((67 - count_leading_zeros 64 x) / 4 ≡ length (hexadecimal x)) × ((67 - count_leading_zeros 64 x) / 4 ≤ 16)
unfolding hexadecimal
word-digits x p h =
    let t = leading_top 64 x p h in
    let e = by-top t.0 t.0 x (le_refl t.0) t.2 t.3 in
    (omega (arith, t.1, e), omega (arith, t.1))

-- these three apart from the others: `omega` has few hypotheses with large numbers in reach
above : (low high x : ℕ) → x ≤ high → 18446744073709551616 * x ≤ wide low high
above low high x h = le_trans (mul-le-mul_left 18446744073709551616 h) (omega arith)

below_next : (low high : ℕ) → low < 18446744073709551616 → wide low high < 18446744073709551616 * suc high
below_next low high l = omega arith

by-zeros : (z j d : ℕ) → z + suc j ≡ 64 → d ≡ (64 + j) / 4 + 1 → ((131 - z) / 4 ≡ d) × ((131 - z) / 4 ≤ 32)
by-zeros z j d t e = (omega arith, omega arith)

pub words-digits : (low high : ℕ) → low < 18446744073709551616 → 0 < high → high < 18446744073709551616
    → ((131 - count_leading_zeros 64 high) / 4 ≡ length (hexadecimal (wide low high))) × ((131 - count_leading_zeros 64 high) / 4 ≤ 32)
unfolding hexadecimal
words-digits low high l p h =
    let t = leading_top 64 high p h in
    let j = t.0 in
    let a : 2 ^ (64 + j) ≡ 18446744073709551616 * 2 ^ j = pow-add 2 64 j in
    let b : 2 ^ suc (64 + j) ≡ 18446744073709551616 * 2 ^ suc j = ap (λ (z : ℕ). 2 ^ z) (sym (add-suc 64 j)) ∙ pow-add 2 64 (suc j) in
    let from = subst (λ (z : ℕ). z ≤ wide low high) (sym a) (above low high (2 ^ j) t.2) in
    let to = subst (λ (z : ℕ). wide low high < z) (sym b) (lt_of_lt_of_le (below_next low high l) (mul-le-mul_left 18446744073709551616 t.3)) in
    by-zeros (count_leading_zeros 64 high) j _ t.1 (by-top (64 + j) (64 + j) (wide low high) (le_refl (64 + j)) from to)
