-- Numbers that are moved: by two amounts one after the other, by far, by parts. Assumes nothing.
use mathlib.Core.Path.{◌≡◌, refl, sym, ap, ◌∙◌, subst}
use mathlib.Core.Bool.{Bool, true, false, cond}
use Prim.Native.Nat.{ℕ, zero, suc, ◌+◌, ◌-◌, ◌*◌, ◌/◌, ◌%◌, ◌^◌, ◌≤◌, ◌<◌}
use native.Mathlib.Nat.{mod-eq_of_lt, mul-add-mod_self_right, mul-mod_left, div-add-mod', add-mul, mul_assoc, mul_right_comm, mul-one, div-one}
use native.Mathlib.Nat.{div-eq_of_lt, div-le_self, lt_of_lt_of_le, mod-lt, add_comm, one-mul, suc-mul}
use native.Mathlib.Omega.{arith}
use lib.Dec.{eqb}
use borrow.Author.Tests.{eqb-true, eqb-false}
use Rattle.terms.specs.Value.{bit}
use lib.Arith.{digits_div, sub-sub_self}
use lib.Pow.{pow-add, pow_pos, pow_mono, shr-shr, shl-shr, mod-pow-add, ones_split, high_ones, shr_lt}
use Rattle.gates_circuits.specs.Shift.{moved, moved_if, filled_with}

mod_times : (x y p : ℕ) → x % p * y % p ≡ x * y % p
mod_times x y p =
    sym (mul-add-mod_self_right (x / p * y) p (x % p * y))
    ∙ ap (λ (t : ℕ). t % p) (rw (mul_right_comm (x / p) y p, sym (add-mul (x / p * p) (x % p) y), div-add-mod' x p))

pub moved_none : (left filled : Bool) (w n : ℕ) → n < 2 ^ w → moved left filled w n 0 ≡ n
moved_none true filled w n l = rw (mul-one n) (mod-eq_of_lt l)
moved_none false true w n l = rw (div-one ((2 ^ w - 1) - n)) (omega (arith, l))
moved_none false false w n l = div-one n

pub moved_more : (left filled : Bool) (w n t s : ℕ) → moved left filled w (moved left filled w n t) s ≡ moved left filled w n (t + s)
moved_more true filled w n t s = mod_times (n * 2 ^ t) (2 ^ s) (2 ^ w) ∙ ap (λ (x : ℕ). x % 2 ^ w) (rw (pow-add 2 t s, mul_assoc n (2 ^ t) (2 ^ s)))
moved_more false true w n t s =
    let o = 2 ^ w - 1 in
    let back = sub-sub_self {a = (o - n) / 2 ^ t} {m = o} (omega (arith, div-le_self (o - n) (2 ^ t))) in
    rw (back, shr-shr (o - n) t s)
moved_more false false w n t s = shr-shr n t s

-- as far as the width or farther
pub moved-far : (left filled : Bool) (w n t : ℕ) → n < 2 ^ w → w ≤ t → (left ≡ true → filled ≡ false) → moved left filled w n t ≡ filled_with filled w
moved-far true filled w n t l h e =
    let d : t ≡ (t - w) + w = omega arith in
    rw (e refl) (ap (λ (x : ℕ). n * 2 ^ x % 2 ^ w) d ∙ rw (pow-add 2 (t - w) w, sym (mul_assoc n (2 ^ (t - w)) (2 ^ w)))
    (mul-mod_left (n * 2 ^ (t - w)) (2 ^ w)))
moved-far false true w n t l h e = let z : (2 ^ w - 1) - n < 2 ^ t = omega (arith, pow_mono h, pow_pos w) in rw (div-eq_of_lt z) (omega arith)
moved-far false false w n t l h e = div-eq_of_lt (lt_of_lt_of_le l (pow_mono h))

-- up, by parts: the low bits move up
pub left-parts : (n s w : ℕ) → s ≤ w → n % 2 ^ (w - s) * 2 ^ s + 0 ≡ n * 2 ^ s % 2 ^ w
left-parts n s w h =
    let e : w ≡ (w - s) + s = omega arith in
    sym (ap (λ (x : ℕ). n * 2 ^ s % 2 ^ x) e ∙ mod-pow-add (n * 2 ^ s) (w - s) s ∙ rw (shl-shr n s, mul-mod_left n (2 ^ s)))

-- the inversion of a number of m + s bits, moved down: that of its high bits
split-ones : (n p q r u a b : ℕ) → a ≡ b * p + (p - 1) → b * p ≡ u * p + q * p → r < p → q * p + r ≡ n → a - n ≡ u * p + ((p - 1) - r)
split-ones n p q r u a b ea eb l en = omega arith

inverted-high : (n s m : ℕ) → n < 2 ^ (m + s) → ((2 ^ (m + s) - 1) - n) / 2 ^ s ≡ (2 ^ m - 1) - n / 2 ^ s
inverted-high n s m l = ap (λ (x : ℕ). x / 2 ^ s) parts ∙ digits_div up small
  where
    up : ℕ
    up = (2 ^ m - 1) - n / 2 ^ s

    rest : n % 2 ^ s < 2 ^ s
    rest = mod-lt n (pow_pos s)

    small : (2 ^ s - 1) - n % 2 ^ s < 2 ^ s
    small = omega (arith, pow_pos s)

    whole : 2 ^ m - 1 ≡ up + n / 2 ^ s
    whole = omega (arith, shr_lt m s l)

    parts : (2 ^ (m + s) - 1) - n ≡ up * 2 ^ s + ((2 ^ s - 1) - n % 2 ^ s)
    parts =
        split-ones n (2 ^ s) (n / 2 ^ s) (n % 2 ^ s) up (2 ^ (m + s) - 1) (2 ^ m - 1) (ones_split m s)
        (ap (λ (x : ℕ). x * 2 ^ s) whole ∙ add-mul up (n / 2 ^ s) (2 ^ s))
        rest
        (div-add-mod' n (2 ^ s))

up-back : (a b q t : ℕ) → a - b ≡ t → q < b → b ≤ a → t + q ≡ (a - 1) - ((b - 1) - q)
up-back a b q t e l h = omega arith

ones-parts : (n s m : ℕ) → n < 2 ^ (m + s) → (2 ^ s - 1) * 2 ^ m + n / 2 ^ s ≡ (2 ^ (m + s) - 1) - ((2 ^ (m + s) - 1) - n) / 2 ^ s
ones-parts n s m l =
    up-back (2 ^ (m + s)) (2 ^ m) (n / 2 ^ s) ((2 ^ s - 1) * 2 ^ m)
    (ap (λ (x : ℕ). 2 ^ x - 2 ^ m) (add_comm m s) ∙ high_ones s m)
    (shr_lt m s l)
    (pow_mono {i = m} {j = m + s} (omega arith))
    ∙ ap (λ (x : ℕ). (2 ^ (m + s) - 1) - x) (sym (inverted-high n s m l))

-- down, by parts: what comes in is above the high bits
pub right-parts : (filled : Bool) (n s w : ℕ) → n < 2 ^ w → s ≤ w → filled_with filled s * 2 ^ (w - s) + n / 2 ^ s ≡ moved false filled w n s
right-parts false n s w l h = omega arith
right-parts true n s w l h =
    let e : w ≡ (w - s) + s = omega arith in
    ones-parts n s (w - s) (subst (λ (x : ℕ). n < 2 ^ x) e l) ∙ ap (λ (x : ℕ). (2 ^ x - 1) - ((2 ^ x - 1) - n) / 2 ^ s) (sym e)

-- one bit more of the amount
pub moved-bit : (c left filled : Bool) (w n t s : ℕ) → moved_if c left filled w (moved left filled w n t) s ≡ moved left filled w n (t + bit c * s)
moved-bit true left filled w n t s = moved_more left filled w n t s ∙ ap (λ (x : ℕ). moved left filled w n (t + x)) (sym (one-mul s))
moved-bit false left filled w n t s = ap (moved left filled w n) (omega arith)

far-enough : (q p r t : ℕ) → (q ≡ 0 → ⊥) → q * p + r ≡ t → p ≤ t
far-enough zero p r t n e = absurd (n refl)
far-enough (suc q) p r t n e = omega (arith, suc-mul q p)

-- the low bits of the amount, if the others are 0; else all is moved away
pub moved_all : (left filled : Bool) (w n t i : ℕ) → n < 2 ^ w → w ≤ 2 ^ i → (left ≡ true → filled ≡ false)
    → cond (eqb (t / 2 ^ i) 0) (moved left filled w n (t % 2 ^ i)) (filled_with filled w) ≡ moved left filled w n t
moved_all left filled w n t i l h e = go (eqb (t / 2 ^ i) 0) refl
  where
    whole : t / 2 ^ i * 2 ^ i + t % 2 ^ i ≡ t
    whole = div-add-mod' t (2 ^ i)

    go : (b : Bool) → eqb (t / 2 ^ i) 0 ≡ b → cond b (moved left filled w n (t % 2 ^ i)) (filled_with filled w) ≡ moved left filled w n t
    go true z = ap (moved left filled w n) (sym (ap (λ (x : ℕ). x * 2 ^ i + t % 2 ^ i) (eqb-true (t / 2 ^ i) 0 z) ∙ omega arith) ∙ whole)
    go false z = sym (moved-far left filled w n t l (omega (arith, h, far-enough (t / 2 ^ i) (2 ^ i) (t % 2 ^ i) t (eqb-false (t / 2 ^ i) 0 z) whole)) e)
