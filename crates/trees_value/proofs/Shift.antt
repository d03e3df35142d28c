-- The shifts. `shift_z` and the immediate forms. Assumes nothing.
use mathlib.Core.Path.{◌≡◌, refl, sym, ap, ◌∙◌, subst}
use mathlib.Core.Bool.{Bool, true, false, cond}
use Prim.Native.Nat.{ℕ, ◌+◌, ◌-◌, ◌*◌, ◌^◌, ◌≤◌, ◌<◌, max}
use native.Mathlib.Omega.{arith}
use native.Mathlib.Nat.{one-mul, le-max_left, le-max_right, zero-div, mul-le-mul_right}
use borrow.Author.Tests.{eqb-true, eqb-false, ltb-true, ltb-false, leb-true, leb-false}
use lib.Dec.{eqb, ltb, leb}
use lib.Pow.{pow_pos, pow_mono, pow-add}
use lib.IntN.{ℤ, pos, negsuc, neg_ℤ, ◌+ℤ◌, ◌-ℤ◌, ◌*ℤ◌}
use lib.Signed.{lt_z, shr_z}
use Rattle.terms.specs.Expr.{Expr, Const, Bv, Compare, Ite}
use Rattle.terms.specs.Value.{value}
use Rattle.terms.specs.declared.BinOp.TheVariants.{Shl}
use Rattle.terms.specs.declared.CmpOp.TheVariants.{Eq}
use Rattle.neon.specs.Form.{most}
use Rattle.neon.specs.Arm.{wrap, c_s, c_u, lane}
use Rattle.trees.specs.Arith.{shift_by, shift_bound, saturating_shift_left}
use Rattle.trees.specs.Trees.{shift_right}
use Rattle.trees.specs.Arith as Arith
use Rattle.trees_value.specs.Fits.{up, dn, FitsS, FitsU, Fits}
use Rattle.trees_value.proofs.Z.{sum, less, times, ext, Floor, floored, ge-is}
use Rattle.trees_value.proofs.Wrap.{half, wrap-lt, over, under, wrap-is}
use Rattle.trees_value.proofs.Bv.{wrap-pos}
use Rattle.trees_value.proofs.Is.{Is, By, by-is, is_eq, is-const, is_negative, is-add, is-sub, is-shl, is-zext, is-extend, is-shift, is_cut, is-then, is-else, is-ite, says-slt, says_eq}
use Rattle.trees_value.proofs.Clamp.{reading, reading-fits, reading-wrap, reading-is, same, near, clamp_to, clamp-in, low-S, high-S, high-U, floor-fits, congruent, multiple-le}

-- ---- to the right, with rounding: the sum is exact one bit above the lane and the amount
module _ (n k most : ℕ) (hn : 0 < n) (hk : 0 < k) (hm : k ≤ most) where
  wide : ℕ
  wide = max n most + 1

  record Wide : Type 0 where
    top : 2 ^ (max n most + 1 - 1) ≡ 2 ^ max n most
    all : 2 ^ (max n most + 1) ≡ 2 * 2 ^ max n most
    lane : 2 ^ n ≤ 2 ^ max n most
    bits : 2 ^ n ≡ 2 * 2 ^ (n - 1)
    by : 2 * 2 ^ (k - 1) ≤ 2 ^ max n most

  powers : Wide
  powers = record {
    top = ap (λ (t : ℕ). 2 ^ t) (omega arith);
    all = pow-add 2 (max n most) 1 ∙ omega arith;
    lane = pow_mono (le-max_left n most);
    bits = half n hn;
    by = rw (← half k hk) (pow_mono (omega (arith, le-max_right n most)));
  }

  round-fits : (s : Bool) (x : ℤ) → Fits s n x → Fits s (max n most + 1) (x +ℤ pos (2 ^ (k - 1)))
  round-fits true x f = record { low = omega (arith, powers, sum x (pos (2 ^ (k - 1)))); high = omega (arith, powers, sum x (pos (2 ^ (k - 1)))) }
  round-fits false x f = record { low = omega (arith, powers, sum x (pos (2 ^ (k - 1)))); high = omega (arith, powers, sum x (pos (2 ^ (k - 1)))) }

  pub is-round : (r : ℕ → ℕ) (s : Bool) (v amount : Expr) (x : ℤ) → Fits s n x → k < 2 ^ n → Is r v n x → Is r amount n (pos k)
      → Is r (shift_right v amount n s true most) n (shr_z (x +ℤ pos (2 ^ (k - 1))) (2 ^ k))
  unfolding Arith.shift_right
  is-round r s v amount x f small p q =
      let w : ℕ = max n most + 1 in
      let nw : n ≤ max n most + 1 = omega (arith, le-max_left n most) in
      let ww : 2 ^ n ≤ 2 ^ (max n most + 1) = pow_mono nw in
      let by = is-zext r nw (record { low = omega arith; high = omega arith }) q in
      let one = is-const r 1 (max n most + 1) (omega (arith, powers, pow_pos (k - 1))) in
      let less1 = is_eq r (ext (pos k -ℤ pos 1) (pos (k - 1)) (omega (arith, less (pos k) (pos 1)))) (is-sub r by one) in
      let unit = is_eq r (ap pos (one-mul (2 ^ (k - 1)))) (is-shl r one (by-is r (omega arith) less1)) in
      let total = is-add r (is-extend r s hn nw f p) unit in
      is_cut r hn nw (is-shift r s (omega arith) (round-fits s x f) total (by-is r (omega arith) by))

-- ---- to the left, with a clamp: shifted back, the lane is itself exactly when the product fits
pub floor-unique : (q x z : ℤ) (m : ℕ) → Floor q z m → up z + dn x * m ≡ dn z + up x * m → q ≡ x
floor-unique q x z m f e =
    let a : up q + dn x ≤ up x + dn q = multiple-le m (up x + dn q) (up q + dn x) (omega arith) in
    let b : up x + dn q ≤ up q + dn x = multiple-le m (up q + dn x) (up x + dn q) (omega arith) in
    ext q x (omega arith)

-- x times 2 ^ k, as `times` has it
pub product : (x : ℤ) (m : ℕ) → up (x *ℤ pos m) + dn x * m ≡ dn (x *ℤ pos m) + up x * m
product x m = omega (arith, times x (pos m))

pub floor-exact : (x : ℤ) (k : ℕ) → shr_z (x *ℤ pos (2 ^ k)) (2 ^ k) ≡ x
floor-exact x k =
    floor-unique (shr_z (x *ℤ pos (2 ^ k)) (2 ^ k)) x (x *ℤ pos (2 ^ k)) (2 ^ k) (floored (x *ℤ pos (2 ^ k)) (2 ^ k) (pow_pos k)) (product x (2 ^ k))

module _ (s : Bool) (n k : ℕ) (x y : ℤ) (hn : 0 < n) (fy : Fits s n y) (e : wrap n y ≡ wrap n (x *ℤ pos (2 ^ k))) where
  restored-short : k ≤ n → shr_z y (2 ^ k) ≡ x → y ≡ x *ℤ pos (2 ^ k)
  restored-short h t =
      let z : ℤ = x *ℤ pos (2 ^ k) in
      let f : Floor x y (2 ^ k) = subst (λ (q : ℤ). Floor q y (2 ^ k)) t (floored y (2 ^ k) (pow_pos k)) in
      let g : up (x *ℤ pos (2 ^ k)) + dn x * 2 ^ k ≡ dn (x *ℤ pos (2 ^ k)) + up x * 2 ^ k = product x (2 ^ k) in
      ext y (x *ℤ pos (2 ^ k))
      (near (2 ^ k) (up y + dn (x *ℤ pos (2 ^ k))) (up (x *ℤ pos (2 ^ k)) + dn y)
      ((under n y + over n (x *ℤ pos (2 ^ k))) * 2 ^ (n - k)) ((under n (x *ℤ pos (2 ^ k)) + over n y) * 2 ^ (n - k))
      (omega (
        arith,
        congruent n y (x *ℤ pos (2 ^ k)) e,
        ap (λ (c : ℕ). (under n y + over n (x *ℤ pos (2 ^ k))) * c) whole,
        ap (λ (c : ℕ). (under n (x *ℤ pos (2 ^ k)) + over n y) * c) whole,
      ))
      (omega arith) (omega arith))
    where
      whole : 2 ^ n ≡ 2 ^ (n - k) * 2 ^ k
      whole = ap (λ (c : ℕ). 2 ^ c) (omega arith) ∙ pow-add 2 (n - k) k

  restored-long : n ≤ k → shr_z y (2 ^ k) ≡ x → y ≡ x *ℤ pos (2 ^ k)
  restored-long h t = none ∙ ext (pos 0) (x *ℤ pos (2 ^ k)) (omega (arith, product x (2 ^ k), ap (λ (c : ℤ). up c * 2 ^ k) nil, ap (λ (c : ℤ). dn c * 2 ^ k) nil))
    where
      whole : 2 ^ k ≡ 2 ^ (k - n) * 2 ^ n
      whole = ap (λ (c : ℕ). 2 ^ c) (omega arith) ∙ pow-add 2 (k - n) n

      zero_is : 0 ≡ wrap n (x *ℤ pos (2 ^ k))
      zero_is =
          wrap-is n (x *ℤ pos (2 ^ k)) 0 (up x * 2 ^ (k - n)) (dn x * 2 ^ (k - n)) (pow_pos n)
          (omega (arith, product x (2 ^ k), ap (λ (c : ℕ). up x * c) whole, ap (λ (c : ℕ). dn x * c) whole))

      zero-fits : (s : Bool) → Fits s n (pos 0)
      zero-fits true = record { low = omega arith; high = omega (arith, pow_pos (n - 1)) }
      zero-fits false = record { low = omega arith; high = omega (arith, pow_pos n) }

      none : y ≡ pos 0
      none = same s n y (pos 0) hn fy (zero-fits s) (e ∙ sym zero_is ∙ sym (wrap-pos n 0 (pow_pos n)))

      nil : x ≡ pos 0
      nil = sym t ∙ ap (λ (c : ℤ). shr_z c (2 ^ k)) none ∙ ap pos (zero-div (2 ^ k))

  pub restored-is : shr_z y (2 ^ k) ≡ x → y ≡ x *ℤ pos (2 ^ k)
  restored-is t = go (leb k n) refl
    where
      go : (b : Bool) → leb k n ≡ b → y ≡ x *ℤ pos (2 ^ k)
      go true l = restored-short (leb-true k n l) t
      go false l = restored-long (omega (arith, leb-false k n l)) t

-- an integer that does not fit is clamped to the end on its side
above-S : (n : ℕ) (z : ℤ) → (FitsS n z → ⊥) → dn z ≤ up z → c_s n z ≡ pos (2 ^ (n - 1) - 1)
above-S n z nf h = go (ltb (up z) (dn z + 2 ^ (n - 1))) refl
  where
    go : (t : Bool) → ltb (up z) (dn z + 2 ^ (n - 1)) ≡ t → c_s n z ≡ pos (2 ^ (n - 1) - 1)
    go true e = absurd (nf (record { low = omega arith; high = ltb-true (up z) (dn z + 2 ^ (n - 1)) e }))
    go false e = high-S n z (ltb-false (up z) (dn z + 2 ^ (n - 1)) e)

below-S : (n : ℕ) (z : ℤ) → (FitsS n z → ⊥) → up z ≤ dn z → c_s n z ≡ neg_ℤ (pos (2 ^ (n - 1)))
below-S n z nf h = go (ltb (up z + 2 ^ (n - 1)) (dn z)) refl
  where
    go : (t : Bool) → ltb (up z + 2 ^ (n - 1)) (dn z) ≡ t → c_s n z ≡ neg_ℤ (pos (2 ^ (n - 1)))
    go true e = low-S n z (ltb-true (up z + 2 ^ (n - 1)) (dn z) e)
    go false e = absurd (nf (record { low = ltb-false (up z + 2 ^ (n - 1)) (dn z) e; high = omega (arith, pow_pos (n - 1)) }))

above-U : (n : ℕ) (z : ℤ) → (FitsU n z → ⊥) → dn z ≤ up z → c_u n z ≡ pos (2 ^ n - 1)
above-U n z nf h = go (ltb (up z) (dn z + 2 ^ n)) refl
  where
    go : (t : Bool) → ltb (up z) (dn z + 2 ^ n) ≡ t → c_u n z ≡ pos (2 ^ n - 1)
    go true e = absurd (nf (record { low = h; high = ltb-true (up z) (dn z + 2 ^ n) e }))
    go false e = high-U n z (ltb-false (up z) (dn z + 2 ^ n) e)

module _ (r : ℕ → ℕ) (v : Expr) (n k : ℕ) (hn : 0 < n) where
  is_bound : (s : Bool) (x : ℤ) → Fits s n x → Is r v n x → (Fits s n (x *ℤ pos (2 ^ k)) → ⊥) → Is r (shift_bound v n s) n (clamp_to s n (x *ℤ pos (2 ^ k)))
  is_bound false x f p nf =
      is_eq r (sym (above-U n (x *ℤ pos (2 ^ k)) nf (omega (arith, product x (2 ^ k), mul-le-mul_right (2 ^ k) f.low))))
      (is-const r (2 ^ n - 1) n (omega (arith, pow_pos n)))
  is_bound true x f p nf =
      let zf : FitsS n (pos 0) = record { low = omega arith; high = omega (arith, pow_pos (n - 1)) } in
      let low : Is r (Const (2 ^ (n - 1)) n) n (neg_ℤ (pos (2 ^ (n - 1)))) =
      subst (λ (c : ℕ). Is r (Const c n) n (neg_ℤ (pos (2 ^ (n - 1))))) (omega (arith, half n hn))
      (is_negative r (2 ^ (n - 1)) n (pow_pos (n - 1)) (omega (arith, half n hn))) in
      let high = is-const r (2 ^ (n - 1) - 1) n (omega (arith, half n hn, pow_pos (n - 1))) in
      is_eq r (ends x nf) (is-ite r (says-slt r hn f zf p (is-const r 0 n (pow_pos n))) low high)
    where
      ends : (x : ℤ) → (FitsS n (x *ℤ pos (2 ^ k)) → ⊥)
          → cond (lt_z x (pos 0)) (neg_ℤ (pos (2 ^ (n - 1)))) (pos (2 ^ (n - 1) - 1)) ≡ c_s n (x *ℤ pos (2 ^ k))
      ends (pos a) nf = rw (ge-is (pos a) (pos 0) (omega arith)) (sym (above-S n (pos (a * 2 ^ k)) nf (omega arith)))
      ends (negsuc a) nf = sym (below-S n (negsuc a *ℤ pos (2 ^ k)) nf (omega (arith, product (negsuc a) (2 ^ k))))

  pub is-saturating : (s : Bool) (amount : Expr) (x : ℤ) → Fits s n x → Is r v n x → By r amount k
      → Is r (saturating_shift_left v amount n s) n (clamp_to s n (x *ℤ pos (2 ^ k)))
  unfolding saturating_shift_left value
  is-saturating s amount x f p q = go (eqb (value r (shift_by s (Bv Shl v amount) amount)) (value r v)) refl
    where
      z : ℤ
      z = x *ℤ pos (2 ^ k)

      y : ℤ
      y = reading s n (wrap n (x *ℤ pos (2 ^ k)))

      shifted : Is r (Bv Shl v amount) n (x *ℤ pos (2 ^ k))
      shifted = is-shl r p q

      y-wrap : wrap n (reading s n (wrap n (x *ℤ pos (2 ^ k)))) ≡ wrap n (x *ℤ pos (2 ^ k))
      y-wrap = reading-wrap s n (wrap n (x *ℤ pos (2 ^ k))) (wrap-lt n (x *ℤ pos (2 ^ k)))

      y-fits : Fits s n (reading s n (wrap n (x *ℤ pos (2 ^ k))))
      y-fits = reading-fits s n (wrap n (x *ℤ pos (2 ^ k))) hn (wrap-lt n (x *ℤ pos (2 ^ k)))

      restored : Is r (shift_by s (Bv Shl v amount) amount) n (shr_z (reading s n (wrap n (x *ℤ pos (2 ^ k)))) (2 ^ k))
      restored = is-shift r s hn y-fits (record { wide = shifted.wide; val = shifted.val ∙ sym y-wrap }) q

      fits : eqb (value r (shift_by s (Bv Shl v amount) amount)) (value r v) ≡ true → Fits s n (x *ℤ pos (2 ^ k))
      fits e =
          subst (Fits s n)
          (restored-is s n k x (reading s n (wrap n (x *ℤ pos (2 ^ k)))) hn y-fits y-wrap
          (same s n (shr_z (reading s n (wrap n (x *ℤ pos (2 ^ k)))) (2 ^ k)) x hn
          (floor-fits s n (reading s n (wrap n (x *ℤ pos (2 ^ k)))) (2 ^ k) (pow_pos k) y-fits) f
          (sym restored.val ∙ eqb-true (value r (shift_by s (Bv Shl v amount) amount)) (value r v) e ∙ p.val)))
          y-fits

      unfit : eqb (value r (shift_by s (Bv Shl v amount) amount)) (value r v) ≡ false → Fits s n (x *ℤ pos (2 ^ k)) → ⊥
      unfit e g =
          eqb-false (value r (shift_by s (Bv Shl v amount) amount)) (value r v) e
          (restored.val ∙ ap (λ (c : ℤ). wrap n (shr_z c (2 ^ k))) (reading-is s n (x *ℤ pos (2 ^ k)) hn g) ∙ ap (wrap n) (floor-exact x k) ∙ sym p.val)

      go : (t : Bool) → eqb (value r (shift_by s (Bv Shl v amount) amount)) (value r v) ≡ t
          → Is r (Ite (Compare Eq (shift_by s (Bv Shl v amount) amount) v) (Bv Shl v amount) (shift_bound v n s)) n (clamp_to s n (x *ℤ pos (2 ^ k)))
      go true e = is-then r (says_eq r e) (is_eq r (sym (clamp-in s n (x *ℤ pos (2 ^ k)) (fits e))) shifted)
      go false e = is-else r (says_eq r e) shifted.wide (is_bound s x f p (unfit e))
