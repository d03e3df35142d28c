-- The bit of a clamp: its value is 1 exactly when the clamp alters the integer. Assumes nothing.
use mathlib.Core.Path.{◌≡◌, refl, sym, ap, ◌∙◌}
use mathlib.Core.Bool.{Bool, true, false, cond, ◌||◌, false≢true}
use Prim.Native.Nat.{ℕ, ◌-◌, ◌*◌, ◌^◌, ◌≤◌, ◌<◌}
use native.Mathlib.Omega.{arith}
use lib.Pow.{pow_pos, pow_mono}
use lib.IntN.{ℤ, pos, neg_ℤ, ◌+ℤ◌, ◌-ℤ◌}
use lib.Signed.{lt_z}
use Rattle.terms.specs.Expr.{Expr, Const}
use Rattle.terms.specs.Value.{bit}
use Rattle.terms.specs.declared.BinOp.TheVariants.{Add, Sub}
use Rattle.neon.specs.Arm.{clamp_z, c_s, c_u}
use Rattle.trees.specs.declared.SaturateTo.TheVariants.{Signed, Unsigned, SignedToUnsigned}
use Rattle.trees.specs.declared.SaturatingKind.TheVariants.{AddSub, Narrow}
use Rattle.trees_value.proofs.Z.{neg-up, neg-dn, ge-is}
use Rattle.trees_value.proofs.Wrap.{half}
use Rattle.trees_value.specs.Fits.{FitsS, FitsU}
use Rattle.trees_value.proofs.Is.{Is, is_eq, is-const, is_negative, is-ite, says-slt, says-ult}
use Rattle.trees_value.proofs.Sat.{sum_u, less_u, apply_z, apply-fits, is-joined}
use Rattle.saturation.specs.Saturates.{outside, beyond_s, beyond_u}
use Rattle.saturation.specs.Bits.{clipped, saturating_bit}

-- z is altered to y exactly when b is true
pub record AltersWhere (b : Bool) (y z : ℤ) : Type 0 where
  pub leaves : b ≡ false → y ≡ z
  pub only : y ≡ z → b ≡ false

less-not : (x z : ℤ) → x ≡ z → lt_z z x ≡ true → ⊥
less-not x z e d = false≢true (sym (ge-is z z (omega arith)) ∙ ap (lt_z z) (sym e) ∙ d)

-- the clamp leaves z if z is not outside, and only then
pub clamp_z-out : (lo hi z : ℤ) → outside lo hi z ≡ false → clamp_z lo hi z ≡ z
unfolding outside clamp_z
clamp_z-out lo hi z e = go (lt_z z lo) (lt_z hi z) refl refl e
  where
    go : (s t : Bool) → lt_z z lo ≡ s → lt_z hi z ≡ t → (s || t) ≡ false → cond s lo (cond t hi z) ≡ z
    go false false d e f = refl
    go true t d e f = absurd (false≢true (sym f))
    go false true d e f = absurd (false≢true (sym f))

pub clamp_z-in : (lo hi z : ℤ) → clamp_z lo hi z ≡ z → outside lo hi z ≡ false
unfolding outside clamp_z
clamp_z-in lo hi z e = go (lt_z z lo) (lt_z hi z) refl refl e
  where
    go : (s t : Bool) → lt_z z lo ≡ s → lt_z hi z ≡ t → cond s lo (cond t hi z) ≡ z → (s || t) ≡ false
    go false false d e f = refl
    go true t d e f = absurd (less-not lo z f d)
    go false true d e f = absurd (less-not z hi (sym f) e)

-- so a lane saturates exactly when the clamp alters its exact result
pub beyond_s-is : (n : ℕ) (z : ℤ) → AltersWhere (beyond_s n z) (c_s n z) z
unfolding beyond_s c_s
beyond_s-is n z = record { leaves = clamp_z-out _ _ z; only = clamp_z-in _ _ z }

pub beyond_u-is : (n : ℕ) (z : ℤ) → AltersWhere (beyond_u n z) (c_u n z) z
unfolding beyond_u c_u
beyond_u-is n z = record { leaves = clamp_z-out _ _ z; only = clamp_z-in _ _ z }

either : (s t : Bool) → cond s (pos 1) (cond t (pos 1) (pos 0)) ≡ pos (bit (s || t))
either true t = refl
either false true = refl
either false false = refl

only : (t : Bool) → cond t (pos 1) (pos 0) ≡ pos (bit t)
only true = refl
only false = refl

module _ (r : ℕ → ℕ) where
  one_bit : (c : ℕ) → c < 2 → Is r (Const c 1) 1 (pos c)
  one_bit c h = is-const r c 1 h

  pub is-clipped_s : {v : Expr} {w n : ℕ} {z : ℤ} → 0 < n → n ≤ w → FitsS w z → Is r v w z → Is r (clipped v w n Signed) 1 (pos (bit (beyond_s n z)))
  unfolding clipped beyond_s outside
  is-clipped_s {w = w} {n = n} {z = z} hn h f p =
      let hw : 0 < w = omega arith in
      let m : 2 ^ (n - 1) ≤ 2 ^ (w - 1) = pow_mono (omega arith) in
      let d : 2 ^ w ≡ 2 * 2 ^ (w - 1) = half w hw in
      let one : 0 < 2 ^ (n - 1) = pow_pos (n - 1) in
      let low = is_negative r (2 ^ (n - 1)) w one (omega arith) in
      let high = is-const r (2 ^ (n - 1) - 1) w (omega arith) in
      let fl : FitsS w (neg_ℤ (pos (2 ^ (n - 1)))) = record {
        low = omega (arith, neg-up (pos (2 ^ (n - 1))), neg-dn (pos (2 ^ (n - 1))));
        high = omega (arith, neg-up (pos (2 ^ (n - 1))), neg-dn (pos (2 ^ (n - 1))));
      } in
      let fh : FitsS w (pos (2 ^ (n - 1) - 1)) = record { low = omega arith; high = omega arith } in
      is_eq r (either (lt_z z (neg_ℤ (pos (2 ^ (n - 1))))) (lt_z (pos (2 ^ (n - 1) - 1)) z))
      (is-ite r (says-slt r hw f fl p low) (one_bit 1 (omega arith)) (is-ite r (says-slt r hw fh f high p) (one_bit 1 (omega arith)) (one_bit 0 (omega arith))))

  pub is-clipped_su : {v : Expr} {w n : ℕ} {z : ℤ} → 0 < n → n < w → FitsS w z → Is r v w z → Is r (clipped v w n SignedToUnsigned) 1 (pos (bit (beyond_u n z)))
  unfolding clipped beyond_u outside
  is-clipped_su {w = w} {n = n} {z = z} hn h f p =
      let hw : 0 < w = omega arith in
      let m : 2 ^ n ≤ 2 ^ (w - 1) = pow_mono (omega arith) in
      let d : 2 ^ w ≡ 2 * 2 ^ (w - 1) = half w hw in
      let low = is-const r 0 w (pow_pos w) in
      let one : 0 < 2 ^ n = pow_pos n in
      let high = is-const r (2 ^ n - 1) w (omega arith) in
      let fl : FitsS w (pos 0) = record { low = omega arith; high = omega arith } in
      let fh : FitsS w (pos (2 ^ n - 1)) = record { low = omega arith; high = omega arith } in
      is_eq r (either (lt_z z (pos 0)) (lt_z (pos (2 ^ n - 1)) z)) (is-ite r (says-slt r hw f fl p low) (one_bit 1 (omega arith))
      (is-ite r (says-slt r hw fh f high p) (one_bit 1 (omega arith)) (one_bit 0 (omega arith))))

  pub is-clipped_u : {v : Expr} {w n : ℕ} {z : ℤ} → 0 < n → n ≤ w → FitsU w z → Is r v w z → Is r (clipped v w n Unsigned) 1 (pos (bit (beyond_u n z)))
  unfolding clipped beyond_u outside
  is-clipped_u {w = w} {n = n} {z = z} hn h f p =
      let m : 2 ^ n ≤ 2 ^ w = pow_mono h in
      let one : 0 < 2 ^ n = pow_pos n in
      let high = is-const r (2 ^ n - 1) w (omega arith) in
      let fh : FitsU w (pos (2 ^ n - 1)) = record { low = omega arith; high = omega arith } in
      rw (ge-is z (pos 0) (omega arith)) (is_eq r (only (lt_z (pos (2 ^ n - 1)) z)) (is-ite r (says-ult r fh f high p) (one_bit 1 (omega arith)) (one_bit 0 (omega arith))))

  -- ---- sums and differences, 19 to 22
  module _ (a b : Expr) (n : ℕ) (x y : ℤ) (hn : 0 < n) (p : Is r a n x) (q : Is r b n y) where
    pub bit-sqaddsub : (subtract : Bool) → FitsS n x → FitsS n y → Is r (saturating_bit (AddSub (cond subtract Sub Add) Signed) a b n true) 1 (pos (bit (beyond_s n (apply_z subtract x y))))
    unfolding saturating_bit
    bit-sqaddsub subtract f g = is-clipped_s hn (omega arith) (apply-fits r subtract hn f g) (is-joined r subtract true true hn (omega arith) f g p q)

    pub bit-uqadd : FitsU n x → FitsU n y → Is r (saturating_bit (AddSub Add Unsigned) a b n false) 1 (pos (bit (beyond_u n (x +ℤ y))))
    unfolding saturating_bit
    bit-uqadd f g = is-clipped_u hn (omega arith) (sum_u hn f g) (is-joined r false false false hn (omega arith) f g p q)

    pub bit-uqsub : FitsU n x → FitsU n y → Is r (saturating_bit (AddSub Sub SignedToUnsigned) a b n false) 1 (pos (bit (beyond_u n (x -ℤ y))))
    unfolding saturating_bit
    bit-uqsub f g = is-clipped_su hn (omega arith) (less_u hn f g) (is-joined r true false false hn (omega arith) f g p q)

  -- ---- narrowing, 27 to 29
  module _ (a b : Expr) (n : ℕ) (x : ℤ) (hn : 0 < n) (p : Is r a (n * 2) x) where
    pub bit-sqxtn : FitsS (n * 2) x → Is r (saturating_bit (Narrow Signed) a b n true) 1 (pos (bit (beyond_s n x)))
    unfolding saturating_bit
    bit-sqxtn f = is-clipped_s hn (omega arith) f p

    pub bit-uqxtn : FitsU (n * 2) x → Is r (saturating_bit (Narrow Unsigned) a b n false) 1 (pos (bit (beyond_u n x)))
    unfolding saturating_bit
    bit-uqxtn f = is-clipped_u hn (omega arith) f p

    pub bit-sqxtun : FitsS (n * 2) x → Is r (saturating_bit (Narrow SignedToUnsigned) a b n true) 1 (pos (bit (beyond_u n x)))
    unfolding saturating_bit
    bit-sqxtun f = is-clipped_su hn (omega arith) f p
