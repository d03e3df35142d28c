-- What each bit-vector operation does to numbers that stand for integers: `wrap w z` stands for z.
-- Sums, differences, products and left shifts carry over at once; the others ask that the integers fit in w bits. Assumes nothing.
use mathlib.Core.Path.{◌≡◌, refl, sym, ap, ◌∙◌}
use mathlib.Core.Bool.{Bool, true, false}
use Prim.Native.Nat.{ℕ, ◌+◌, ◌-◌, ◌*◌, ◌/◌, ◌%◌, ◌^◌, ◌≤◌, ◌<◌}
use native.Mathlib.Nat.{one-mul, div-add-mod', mod-lt, mod-eq_of_lt, div-eq_of_lt, div-eq_of_lt-le}
use native.Mathlib.Omega.{arith}
use borrow.Author.Tests.{ltb-true, ltb-false, lt-ltb, le-ltb}
use lib.Dec.{ltb}
use lib.Pow.{high_ones, pow_pos, pow-add, pow_mono}
use lib.IntN.{ℤ, pos, negsuc, neg_ℤ, ◌+ℤ◌, ◌-ℤ◌, ◌*ℤ◌}
use lib.Signed.{lt_z, shr_z}
use Rattle.terms.specs.Value.{msb, bvneg, bvnot, bvadd, bvsub, bvmul, bvshl, bvlshr, bvashr, bvslt, bvsext}
use Rattle.neon.specs.Arm.{wrap, ones}
use Rattle.trees_value.specs.Fits.{up, dn, FitsS, FitsU}
use Rattle.trees_value.proofs.Z.{times, neg-up, neg-dn}
use Rattle.trees_value.proofs.Wrap.{half, over, under, wrap-eq, wrap-lt, wrap-is, wrap-add, wrap-mul}

-- ---- the operations that always carry over
pub neg_is : (w : ℕ) (y : ℤ) → bvneg w (wrap w y) ≡ wrap w (neg_ℤ y)
unfolding bvneg
neg_is w y =
    wrap-is w (neg_ℤ y) ((2 ^ w - wrap w y) % 2 ^ w) ((2 ^ w - wrap w y) / 2 ^ w + under w y) (over w y + 1) (mod-lt (2 ^ w - wrap w y) (pow_pos w))
    (omega (arith, wrap-eq w y, wrap-lt w y, neg-up y, neg-dn y, div-add-mod' (2 ^ w - wrap w y) (2 ^ w)))

pub add_is : (w : ℕ) (x y : ℤ) → bvadd w (wrap w x) (wrap w y) ≡ wrap w (x +ℤ y)
unfolding bvadd
add_is w x y = wrap-add w x y

pub sub_is : (w : ℕ) (x y : ℤ) → bvsub w (wrap w x) (wrap w y) ≡ wrap w (x -ℤ y)
unfolding bvsub
sub_is w x y = rw neg_is (add_is w x (neg_ℤ y))

pub mul_is : (w : ℕ) (x y : ℤ) → bvmul w (wrap w x) (wrap w y) ≡ wrap w (x *ℤ y)
unfolding bvmul
mul_is w x y = wrap-mul w x y

pub shl_is : (w : ℕ) (x : ℤ) (k : ℕ) → bvshl w (wrap w x) k ≡ wrap w (x *ℤ pos (2 ^ k))
unfolding bvshl
shl_is w x k =
    wrap-is w (x *ℤ pos (2 ^ k)) (wrap w x * 2 ^ k % 2 ^ w) (wrap w x * 2 ^ k / 2 ^ w + over w x * 2 ^ k) (under w x * 2 ^ k)
    (mod-lt (wrap w x * 2 ^ k) (pow_pos w))
    (omega (arith, ap (λ (t : ℕ). t * 2 ^ k) (wrap-eq w x), times x (pos (2 ^ k)), div-add-mod' (wrap w x * 2 ^ k) (2 ^ w)))

-- the n low bits: no bound on z
pub cut-is : (w n : ℕ) (z : ℤ) → n ≤ w → wrap w z % 2 ^ n ≡ wrap n z
cut-is w n z h =
    wrap-is n z (wrap w z % 2 ^ n) (wrap w z / 2 ^ n + over w z * 2 ^ (w - n)) (under w z * 2 ^ (w - n)) (mod-lt (wrap w z) (pow_pos n))
    (omega (arith, wrap-eq w z, div-add-mod' (wrap w z) (2 ^ n), ap (λ (t : ℕ). over w z * t) whole, ap (λ (t : ℕ). under w z * t) whole))
  where
    whole : 2 ^ w ≡ 2 ^ (w - n) * 2 ^ n
    whole = ap (λ (t : ℕ). 2 ^ t) (omega arith) ∙ pow-add 2 (w - n) n

-- ---- an integer that fits, as a number
pub wrap-pos : (w a : ℕ) → a < 2 ^ w → wrap w (pos a) ≡ a
unfolding wrap
wrap-pos w a h = mod-eq_of_lt h

pub wrap-neg : (w a : ℕ) → a < 2 ^ w → wrap w (negsuc a) ≡ (2 ^ w - 1) - a
unfolding wrap
wrap-neg w a h = rw (mod-eq_of_lt h)

msb-clear : (w s : ℕ) → s < 2 ^ (w - 1) → msb w s ≡ 0
unfolding msb
msb-clear w s h = ap (λ (t : ℕ). t % 2) (div-eq_of_lt h)

msb-set : (w s : ℕ) → 0 < w → 2 ^ (w - 1) ≤ s → s < 2 ^ w → msb w s ≡ 1
unfolding msb
msb-set w s hw l h =
    let one : s / 2 ^ (w - 1) ≡ 1 = div-eq_of_lt-le (2 ^ (w - 1)) (omega arith) (omega (arith, half w hw)) in
    rw one

-- the number of an integer that fits, and its most significant bit
pub record Positive (w a : ℕ) : Type 0 where
  pub num : wrap w (pos a) ≡ a
  pub top : msb w (wrap w (pos a)) ≡ 0
  pub lt : a < 2 ^ (w - 1)
  pub small : a < 2 ^ w

pub positive : (w a : ℕ) → 0 < w → FitsS w (pos a) → Positive w a
positive w a hw f =
    let lt : a < 2 ^ (w - 1) = omega arith in
    let small : a < 2 ^ w = omega (arith, half w hw) in
    record { num = wrap-pos w a small; top = rw (wrap-pos w a small) (msb-clear w a lt); lt = lt; small = small }

pub record Negative (w a : ℕ) : Type 0 where
  pub num : wrap w (negsuc a) ≡ (2 ^ w - 1) - a
  pub top : msb w (wrap w (negsuc a)) ≡ 1
  pub lt : a < 2 ^ (w - 1)
  pub small : a < 2 ^ w

pub negative : (w a : ℕ) → 0 < w → FitsS w (negsuc a) → Negative w a
negative w a hw f =
    let lt : a < 2 ^ (w - 1) = omega arith in
    let small : a < 2 ^ w = omega (arith, half w hw) in
    record {
      num = wrap-neg w a small;
      top = rw (wrap-neg w a small) (msb-set w ((2 ^ w - 1) - a) hw (omega (arith, half w hw)) (omega arith));
      lt = lt;
      small = small;
    }

-- ---- the operations that read their operands unsigned
pub lshr-is : (w : ℕ) (x : ℤ) (k : ℕ) → FitsU w x → bvlshr w (wrap w x) k ≡ wrap w (shr_z x (2 ^ k))
unfolding bvlshr
lshr-is w (pos a) k f =
    let h : a < 2 ^ w = omega arith in
    rw (wrap-pos w a h) (unfold wrap in refl)
lshr-is w (negsuc a) k f = absurd (omega arith)

pub ult_is : (w : ℕ) (x y : ℤ) → FitsU w x → FitsU w y → ltb (wrap w x) (wrap w y) ≡ lt_z x y
ult_is w (pos a) (pos b) f g = rw (wrap-pos w a (omega arith), wrap-pos w b (omega arith))
ult_is w (negsuc a) y f g = absurd (omega arith)
ult_is w (pos a) (negsuc b) f g = absurd (omega arith)

pub zext-is : (n w : ℕ) (x : ℤ) → n ≤ w → FitsU n x → wrap n x ≡ wrap w x
zext-is n w (pos a) h f =
    let l : a < 2 ^ n = omega arith in
    wrap-pos n a l ∙ sym (wrap-pos w a (omega (arith, pow_mono h)))
zext-is n w (negsuc a) h f = absurd (omega arith)

-- ---- the operations that read their operands signed
pub ashr-is : (w : ℕ) (x : ℤ) (k : ℕ) → 0 < w → FitsS w x → bvashr w (wrap w x) k ≡ wrap w (shr_z x (2 ^ k))
unfolding bvashr bvlshr bvnot
ashr-is w (pos a) k hw f =
    let p = positive w a hw f in
    rw (p.top, p.num) (unfold wrap in refl)
ashr-is w (negsuc a) k hw f =
    let p = negative w a hw f in
    let back : (2 ^ w - 1) - ((2 ^ w - 1) - a) ≡ a = omega arith in
    rw (p.top, p.num, back) (unfold wrap in refl)

pub slt-is : (w : ℕ) (x y : ℤ) → 0 < w → FitsS w x → FitsS w y → bvslt w (wrap w x) (wrap w y) ≡ lt_z x y
unfolding bvslt
slt-is w (pos a) (pos b) hw f g =
    let p = positive w a hw f in
    let q = positive w b hw g in
    rw (p.top, q.top, p.num, q.num)
slt-is w (pos a) (negsuc b) hw f g = rw ((positive w a hw f).top, (negative w b hw g).top)
slt-is w (negsuc a) (pos b) hw f g = rw ((negative w a hw f).top, (positive w b hw g).top)
slt-is w (negsuc a) (negsuc b) hw f g =
    let p = negative w a hw f in
    let q = negative w b hw g in
    rw (p.top, q.top, p.num, q.num) (flip (ltb b a) refl)
  where
    flip : (t : Bool) → ltb b a ≡ t → ltb ((2 ^ w - 1) - a) ((2 ^ w - 1) - b) ≡ t
    flip true e = lt-ltb ((2 ^ w - 1) - a) ((2 ^ w - 1) - b) (omega (arith, ltb-true b a e, (negative w a hw f).small))
    flip false e = le-ltb ((2 ^ w - 1) - a) ((2 ^ w - 1) - b) (omega (arith, ltb-false b a e))

pub sext-is : (n w : ℕ) (x : ℤ) → 0 < n → n ≤ w → FitsS n x → bvsext n w (wrap n x) ≡ wrap w x
unfolding bvsext
sext-is n w (pos a) hn h f =
    let p = positive n a hn f in
    rw (p.top, p.num, wrap-pos w a (omega (arith, pow_mono h, p.small))) (omega arith)
sext-is n w (negsuc a) hn h f =
    let p = negative n a hn f in
    let l : a < 2 ^ w = omega (arith, pow_mono h, p.small) in
    let ones : 2 ^ w - 2 ^ n ≡ (2 ^ (w - n) - 1) * 2 ^ n = ap (λ (t : ℕ). 2 ^ t - 2 ^ n) (omega arith) ∙ high_ones (w - n) n in
    rw (p.top, p.num, wrap-neg w a l, one-mul (2 ^ (w - n) - 1), ← ones) (omega (arith, pow_mono h, p.small))
