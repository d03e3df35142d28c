-- A shift to the left that loses bits: its bit is 1 exactly when the product does not fit. Assumes nothing.
use mathlib.Core.Path.{◌≡◌, refl, sym, ap, ◌∙◌, subst}
use mathlib.Core.Bool.{Bool, true, false}
use Prim.Native.Nat.{ℕ, ◌-◌, ◌^◌, ◌<◌}
use native.Mathlib.Omega.{arith}
use borrow.Author.Tests.{eqb-true, eqb-false}
use lib.Dec.{eqb}
use lib.Pow.{pow_pos}
use lib.IntN.{ℤ, pos, neg_ℤ, ◌*ℤ◌}
use lib.Signed.{lt_z, shr_z}
use Rattle.terms.specs.Expr.{Expr, Bv}
use Rattle.terms.specs.Value.{value, bit}
use Rattle.terms.specs.declared.BinOp.TheVariants.{Shl}
use Rattle.neon.specs.Arm.{wrap}
use Rattle.trees.specs.Arith.{shift_by}
use Rattle.trees_value.proofs.Z.{neg-up, neg-dn, ge-is, lt_no}
use Rattle.trees_value.proofs.Wrap.{wrap-lt}
use Rattle.trees_value.specs.Fits.{Fits}
use Rattle.trees_value.proofs.Is.{Is, By, is_eq, is-const, is-shl, is-shift, is-then, is-else, says_eq}
use Rattle.trees_value.proofs.Clamp.{reading, reading-fits, reading-wrap, reading-is, same, floor-fits}
use Rattle.trees_value.proofs.Shift.{restored-is, floor-exact}
use Rattle.saturation.specs.Saturates.{outside, beyond_s, beyond_u}
use Rattle.saturation.specs.Bits.{lost}

abbrev pub beyond : Bool → ℕ → ℤ → Bool
beyond true n z = beyond_s n z
beyond false n z = beyond_u n z

-- an integer that fits is not beyond, and one that is not beyond fits
pub inside : (s : Bool) (n : ℕ) (z : ℤ) → Fits s n z → beyond s n z ≡ false
unfolding beyond_s beyond_u outside
inside true n z f =
    rw (ge-is z (neg_ℤ (pos (2 ^ (n - 1)))) (omega (arith, neg-up (pos (2 ^ (n - 1))), neg-dn (pos (2 ^ (n - 1))))), ge-is (pos (2 ^ (n - 1) - 1)) z (omega arith))
inside false n z f = rw (ge-is z (pos 0) (omega arith), ge-is (pos (2 ^ n - 1)) z (omega arith))

low-case : (lo hi z : ℤ) → lt_z z lo ≡ true → outside lo hi z ≡ true
unfolding outside
low-case lo hi z e = rw e

module _ (r : ℕ → ℕ) (v : Expr) (n k : ℕ) (hn : 0 < n) (s : Bool) (amount : Expr) (x : ℤ) (f : Fits s n x) (p : Is r v n x) (q : By r amount k) where
  abbrev z : ℤ
  z = x *ℤ pos (2 ^ k)

  abbrev y : ℤ
  y = reading s n (wrap n (x *ℤ pos (2 ^ k)))

  shifted : Is r (Bv Shl v amount) n (x *ℤ pos (2 ^ k))
  shifted = is-shl r p q

  y-wrap : wrap n y ≡ wrap n z
  y-wrap = reading-wrap s n (wrap n z) (wrap-lt n z)

  y-fits : Fits s n y
  y-fits = reading-fits s n (wrap n z) hn (wrap-lt n z)

  restored : Is r (shift_by s (Bv Shl v amount) amount) n (shr_z y (2 ^ k))
  restored = is-shift r s hn y-fits (record { wide = shifted.wide; val = shifted.val ∙ sym y-wrap }) q

  abbrev test : Bool
  test = eqb (value r (shift_by s (Bv Shl v amount) amount)) (value r v)

  fits : test ≡ true → Fits s n z
  fits e =
      subst (Fits s n)
      (restored-is s n k x y hn y-fits y-wrap
      (same s n (shr_z y (2 ^ k)) x hn (floor-fits s n y (2 ^ k) (pow_pos k) y-fits) f
      (sym restored.val ∙ eqb-true (value r (shift_by s (Bv Shl v amount) amount)) (value r v) e ∙ p.val)))
      y-fits

  unfit : test ≡ false → Fits s n z → ⊥
  unfit e g =
      eqb-false (value r (shift_by s (Bv Shl v amount) amount)) (value r v) e
      (restored.val ∙ ap (λ (c : ℤ). wrap n (shr_z c (2 ^ k))) (reading-is s n z hn g) ∙ ap (wrap n) (floor-exact x k) ∙ sym p.val)

  -- what does not fit is beyond
  outer : (s : Bool) → (Fits s n z → ⊥) → beyond s n z ≡ true
  outer true nf = go (lt_z z (neg_ℤ (pos (2 ^ (n - 1))))) refl (lt_z (pos (2 ^ (n - 1) - 1)) z) refl
    where
      go : (a : Bool) → lt_z z (neg_ℤ (pos (2 ^ (n - 1)))) ≡ a → (b : Bool) → lt_z (pos (2 ^ (n - 1) - 1)) z ≡ b → beyond_s n z ≡ true
      go true d b e = unfold beyond_s outside in rw d
      go false d true e = unfold beyond_s outside in rw (d, e)
      go false d false e =
          absurd (nf (record {
            low = omega (arith, lt_no z (neg_ℤ (pos (2 ^ (n - 1)))) d, neg-up (pos (2 ^ (n - 1))), neg-dn (pos (2 ^ (n - 1))));
            high = omega (arith, lt_no (pos (2 ^ (n - 1) - 1)) z e, pow_pos (n - 1));
          }))
  outer false nf = go (lt_z z (pos 0)) refl (lt_z (pos (2 ^ n - 1)) z) refl
    where
      go : (a : Bool) → lt_z z (pos 0) ≡ a → (b : Bool) → lt_z (pos (2 ^ n - 1)) z ≡ b → beyond_u n z ≡ true
      go true d b e = unfold beyond_u outside in rw d
      go false d true e = unfold beyond_u outside in rw (d, e)
      go false d false e =
          absurd (nf (record {
            low = omega (arith, lt_no z (pos 0) d);
            high = omega (arith, lt_no (pos (2 ^ n - 1)) z e, pow_pos n);
          }))

  pub is_lost : Is r (lost v amount s) 1 (pos (bit (beyond s n (x *ℤ pos (2 ^ k)))))
  unfolding lost
  is_lost = go test refl
    where
      go : (t : Bool) → test ≡ t → unfold lost in Is r (lost v amount s) 1 (pos (bit (beyond s n (x *ℤ pos (2 ^ k)))))
      go true e = is_eq r (ap (λ (b : Bool). pos (bit b)) (sym (inside s n z (fits e)))) (is-then r (says_eq r e) (is-const r 0 1 (omega arith)))
      go false e = is_eq r (ap (λ (b : Bool). pos (bit b)) (sym (outer s (unfit e)))) (is-else r (says_eq r e) (is-const r 0 1 (omega arith)).wide (is-const r 1 1 (omega arith)))
