-- The readings of a lane, and the clamps. Assumes nothing.
use mathlib.Core.Path.{◌≡◌, refl, sym, ap, ◌∙◌}
use mathlib.Core.Bool.{Bool, true, false, cond}
use Prim.Native.Nat.{ℕ, suc, ◌+◌, ◌-◌, ◌*◌, ◌^◌, ◌≤◌, ◌<◌}
use native.Mathlib.Omega.{arith}
use native.Mathlib.Nat.{lt_of_mul-lt-mul_right, le_of_suc-le-suc, div-le_self}
use borrow.Author.Tests.{ltb-true, ltb-false}
use lib.Dec.{ltb}
use lib.Pow.{pow_pos, pow_mono}
use lib.IntN.{ℤ, pos, negsuc, neg_ℤ, ◌-ℤ◌}
use lib.Signed.{lt_z, shr_z}
use Rattle.terms.specs.Expr.{Expr}
use Rattle.neon.specs.Arm.{wrap, U, S, clamp_z, c_s, c_u}
use Rattle.trees.specs.Trees.{clamp}
use Rattle.trees.specs.Arith as Arith
use Rattle.trees.specs.declared.SaturateTo.TheVariants.{Signed, Unsigned, SignedToUnsigned}
use Rattle.trees_value.specs.Fits.{up, dn, FitsS, FitsU, Fits}
use Rattle.trees_value.proofs.Z.{less, neg-up, neg-dn, ge-is, lt-is, lt_no, ext}
use Rattle.trees_value.proofs.Wrap.{half, wrap-is, wrap-lt, wrap-eq, over, under}
use Rattle.trees_value.proofs.Bv.{wrap-pos}
use Rattle.trees_value.proofs.Is.{Is, is-const, is_negative, is_cut, is-ite, says-slt, says-ult}

-- ---- the readings
S-case : (n a : ℕ) (P : ℤ → Type 0) → (a < 2 ^ (n - 1) → P (pos a)) → (2 ^ (n - 1) ≤ a → P (pos a -ℤ pos (2 ^ n))) → P (S n a)
unfolding S
S-case n a P f g = go (ltb a (2 ^ (n - 1))) refl
  where
    go : (t : Bool) → ltb a (2 ^ (n - 1)) ≡ t → P (cond t (pos a) (pos a -ℤ pos (2 ^ n)))
    go true e = f (ltb-true a (2 ^ (n - 1)) e)
    go false e = g (ltb-false a (2 ^ (n - 1)) e)

pub S-fits : (n a : ℕ) → 0 < n → a < 2 ^ n → FitsS n (S n a)
S-fits n a hn h =
    S-case n a (FitsS n) (λ l. record { low = omega arith; high = omega arith })
    (λ l. record { low = omega (arith, less (pos a) (pos (2 ^ n)), half n hn); high = omega (arith, less (pos a) (pos (2 ^ n))) })

pub S-wrap : (n a : ℕ) → a < 2 ^ n → wrap n (S n a) ≡ a
S-wrap n a h =
    S-case n a (λ z. wrap n z ≡ a) (λ l. wrap-pos n a h)
    (λ l. sym (wrap-is n (pos a -ℤ pos (2 ^ n)) a 0 1 h (omega (arith, less (pos a) (pos (2 ^ n))))))

-- a lane as it is read, by a flag: true is signed
abbrev pub reading : Bool → ℕ → ℕ → ℤ
reading true n a = S n a
reading false n a = U a

pub reading-fits : (s : Bool) (n a : ℕ) → 0 < n → a < 2 ^ n → Fits s n (reading s n a)
reading-fits true n a hn h = S-fits n a hn h
reading-fits false n a hn h = record { low = omega arith; high = omega arith }

pub reading-wrap : (s : Bool) (n a : ℕ) → a < 2 ^ n → wrap n (reading s n a) ≡ a
reading-wrap true n a h = S-wrap n a h
reading-wrap false n a h = wrap-pos n a h

-- two integers of n bits with one number are equal
pub multiple-le : (m a b : ℕ) → b * m < a * m + m → b ≤ a
multiple-le m a b h = le_of_suc-le-suc (lt_of_mul-lt-mul_right m {n = suc a} (omega arith))

pub near : (m u v a b : ℕ) → u + a * m ≡ v + b * m → u < v + m → v < u + m → u ≡ v
near m u v a b e h l =
    let p : b ≤ a = multiple-le m a b (omega arith) in
    let q : a ≤ b = multiple-le m b a (omega arith) in
    let s : a ≡ b = omega arith in
    omega (arith, ap (λ (t : ℕ). t * m) s)

pub congruent : (n : ℕ) (x y : ℤ) → wrap n x ≡ wrap n y
    → up x + dn y + (under n x + over n y) * 2 ^ n ≡ up y + dn x + (under n y + over n x) * 2 ^ n
congruent n x y e = omega (arith, wrap-eq n x, wrap-eq n y)

pub same : (s : Bool) (n : ℕ) (x y : ℤ) → 0 < n → Fits s n x → Fits s n y → wrap n x ≡ wrap n y → x ≡ y
same true n x y hn f g e =
    ext x y (near (2 ^ n) (up x + dn y) (up y + dn x) (under n x + over n y) (under n y + over n x) (congruent n x y e)
    (omega (arith, half n hn)) (omega (arith, half n hn)))
same false n x y hn f g e =
    ext x y (near (2 ^ n) (up x + dn y) (up y + dn x) (under n x + over n y) (under n y + over n x) (congruent n x y e) (omega arith) (omega arith))

pub reading-is : (s : Bool) (n : ℕ) (z : ℤ) → 0 < n → Fits s n z → reading s n (wrap n z) ≡ z
reading-is s n z hn f =
    same s n (reading s n (wrap n z)) z hn (reading-fits s n (wrap n z) hn (wrap-lt n z)) f (reading-wrap s n (wrap n z) (wrap-lt n z))

-- ---- the clamp by a flag
abbrev pub clamp_to : Bool → ℕ → ℤ → ℤ
clamp_to true n z = c_s n z
clamp_to false n z = c_u n z

clamp_z-in : (lo hi z : ℤ) → up lo + dn z ≤ up z + dn lo → up z + dn hi ≤ up hi + dn z → clamp_z lo hi z ≡ z
unfolding clamp_z
clamp_z-in lo hi z l h = rw (ge-is z lo l, ge-is hi z h)

pub clamp-in : (s : Bool) (n : ℕ) (z : ℤ) → Fits s n z → clamp_to s n z ≡ z
unfolding c_s c_u
clamp-in true n z f =
    clamp_z-in (neg_ℤ (pos (2 ^ (n - 1)))) (pos (2 ^ (n - 1) - 1)) z
    (omega (arith, neg-up (pos (2 ^ (n - 1))), neg-dn (pos (2 ^ (n - 1))))) (omega arith)
clamp-in false n z f = clamp_z-in (pos 0) (pos (2 ^ n - 1)) z (omega arith) (omega arith)

clamp_z-low : (lo hi z : ℤ) → up z + dn lo < up lo + dn z → clamp_z lo hi z ≡ lo
unfolding clamp_z
clamp_z-low lo hi z h = rw (lt-is z lo h)

clamp_z-high : (lo hi z : ℤ) → up lo + dn z ≤ up z + dn lo → up hi + dn z < up z + dn hi → clamp_z lo hi z ≡ hi
unfolding clamp_z
clamp_z-high lo hi z l h = rw (ge-is z lo l, lt-is hi z h)

pub low-S : (n : ℕ) (z : ℤ) → up z + 2 ^ (n - 1) < dn z → c_s n z ≡ neg_ℤ (pos (2 ^ (n - 1)))
unfolding c_s
low-S n z h = clamp_z-low (neg_ℤ (pos (2 ^ (n - 1)))) (pos (2 ^ (n - 1) - 1)) z (omega (arith, neg-up (pos (2 ^ (n - 1))), neg-dn (pos (2 ^ (n - 1)))))

pub high-S : (n : ℕ) (z : ℤ) → dn z + 2 ^ (n - 1) ≤ up z → c_s n z ≡ pos (2 ^ (n - 1) - 1)
unfolding c_s
high-S n z h =
    clamp_z-high (neg_ℤ (pos (2 ^ (n - 1)))) (pos (2 ^ (n - 1) - 1)) z
    (omega (arith, neg-up (pos (2 ^ (n - 1))), neg-dn (pos (2 ^ (n - 1))))) (omega (arith, pow_pos (n - 1)))

pub high-U : (n : ℕ) (z : ℤ) → dn z + 2 ^ n ≤ up z → c_u n z ≡ pos (2 ^ n - 1)
unfolding c_u
high-U n z h = clamp_z-high (pos 0) (pos (2 ^ n - 1)) z (omega arith) (omega (arith, pow_pos n))

-- a clamped integer fits: for a second sum
pub clamp-fits : (n : ℕ) (z : ℤ) → FitsS n (c_s n z)
unfolding c_s clamp_z
clamp-fits n z = go (lt_z z (neg_ℤ (pos (2 ^ (n - 1))))) (lt_z (pos (2 ^ (n - 1) - 1)) z) refl refl
  where
    low : ℤ
    low = neg_ℤ (pos (2 ^ (n - 1)))

    go : (s t : Bool) → lt_z z (neg_ℤ (pos (2 ^ (n - 1)))) ≡ s → lt_z (pos (2 ^ (n - 1) - 1)) z ≡ t
        → FitsS n (cond s (neg_ℤ (pos (2 ^ (n - 1)))) (cond t (pos (2 ^ (n - 1) - 1)) z))
    go true t d e = record {
      low = omega (arith, neg-up (pos (2 ^ (n - 1))), neg-dn (pos (2 ^ (n - 1))));
      high = omega (arith, neg-up (pos (2 ^ (n - 1))), neg-dn (pos (2 ^ (n - 1))), pow_pos (n - 1));
    }
    go false true d e = record { low = omega arith; high = omega (arith, pow_pos (n - 1)) }
    go false false d e =
        let l = lt_no z (neg_ℤ (pos (2 ^ (n - 1)))) d in
        let h = lt_no (pos (2 ^ (n - 1) - 1)) z e in
        record { low = omega (arith, neg-up (pos (2 ^ (n - 1))), neg-dn (pos (2 ^ (n - 1)))); high = omega (arith, pow_pos (n - 1)) }

-- ---- a floored quotient fits if the dividend does
pub floor-fits : (s : Bool) (n : ℕ) (z : ℤ) (m : ℕ) → 0 < m → Fits s n z → Fits s n (shr_z z m)
floor-fits true n (pos a) m h f = record { low = omega arith; high = omega (arith, div-le_self a m) }
floor-fits true n (negsuc a) m h f = record { low = omega (arith, div-le_self a m); high = omega arith }
floor-fits false n (pos a) m h f = record { low = omega arith; high = omega (arith, div-le_self a m) }
floor-fits false n (negsuc a) m h f = absurd (omega arith)

module _ (r : ℕ → ℕ) where
  pub is-reading : (s : Bool) {t : Expr} {n a : ℕ} → a < 2 ^ n → Is r t n (pos a) → Is r t n (reading s n a)
  is-reading true {n = n} {a = a} h p = record { wide = p.wide; val = p.val ∙ wrap-pos n a h ∙ sym (S-wrap n a h) }
  is-reading false h p = p

  -- ---- the clamps: in each the tests of the tree are those of the definition
  pub is-clamp_s : {v : Expr} {w n : ℕ} {z : ℤ} → 0 < n → n ≤ w → FitsS w z → Is r v w z → Is r (clamp v w n Signed) n (c_s n z)
  unfolding Arith.clamp c_s clamp_z
  is-clamp_s {w = w} {n = n} hn h f p =
      let hw : 0 < w = omega arith in
      let m : 2 ^ (n - 1) ≤ 2 ^ (w - 1) = pow_mono (omega arith) in
      let d : 2 ^ w ≡ 2 * 2 ^ (w - 1) = half w hw in
      let one : 0 < 2 ^ (n - 1) = pow_pos (n - 1) in
      let low = is_negative r (2 ^ (n - 1)) w one (omega arith) in
      let high = is-const r (2 ^ (n - 1) - 1) w (omega arith) in
      let fl : FitsS w (neg_ℤ (pos (2 ^ (n - 1)))) = record {
        low = omega (arith, neg-up (pos (2 ^ (n - 1))), neg-dn (pos (2 ^ (n - 1))));
        high = omega (arith, neg-up (pos (2 ^ (n - 1))), neg-dn (pos (2 ^ (n - 1))));
      } in
      let fh : FitsS w (pos (2 ^ (n - 1) - 1)) = record { low = omega arith; high = omega arith } in
      is_cut r hn h (is-ite r (says-slt r hw f fl p low) low (is-ite r (says-slt r hw fh f high p) high p))

  pub is-clamp_su : {v : Expr} {w n : ℕ} {z : ℤ} → 0 < n → n < w → FitsS w z → Is r v w z → Is r (clamp v w n SignedToUnsigned) n (c_u n z)
  unfolding Arith.clamp c_u clamp_z
  is-clamp_su {w = w} {n = n} hn h f p =
      let hw : 0 < w = omega arith in
      let m : 2 ^ n ≤ 2 ^ (w - 1) = pow_mono (omega arith) in
      let d : 2 ^ w ≡ 2 * 2 ^ (w - 1) = half w hw in
      let low = is-const r 0 w (pow_pos w) in
      let one : 0 < 2 ^ n = pow_pos n in
      let high = is-const r (2 ^ n - 1) w (omega arith) in
      let fl : FitsS w (pos 0) = record { low = omega arith; high = omega arith } in
      let fh : FitsS w (pos (2 ^ n - 1)) = record { low = omega arith; high = omega arith } in
      is_cut r hn (omega arith) (is-ite r (says-slt r hw f fl p low) low (is-ite r (says-slt r hw fh f high p) high p))

  pub is-clamp_u : {v : Expr} {w n : ℕ} {z : ℤ} → 0 < n → n ≤ w → FitsU w z → Is r v w z → Is r (clamp v w n Unsigned) n (c_u n z)
  unfolding Arith.clamp c_u clamp_z
  is-clamp_u {w = w} {n = n} {z = z} hn h f p =
      let m : 2 ^ n ≤ 2 ^ w = pow_mono h in
      let one : 0 < 2 ^ n = pow_pos n in
      let high = is-const r (2 ^ n - 1) w (omega arith) in
      let fh : FitsU w (pos (2 ^ n - 1)) = record { low = omega arith; high = omega arith } in
      rw (ge-is z (pos 0) (omega arith)) (is_cut r hn h (is-ite r (says-ult r fh f high p) high p))
