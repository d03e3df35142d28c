-- The absolute difference of two lanes, signed and unsigned. Assumes nothing.
use mathlib.Core.Path.{◌≡◌, refl, sym, ◌∙◌}
use mathlib.Core.Bool.{Bool, true, false, cond}
use Prim.Native.Nat.{ℕ, ◌≤◌, ◌<◌}
use native.Mathlib.Omega.{arith}
use lib.IntN.{ℤ, pos, negsuc, neg_ℤ, nat_abs, ◌-ℤ◌}
use lib.Signed.{lt_z}
use Rattle.terms.specs.Expr.{Expr}
use Rattle.trees.specs.Arith.{absolute_difference_lane}
use Rattle.trees_value.specs.Fits.{up, dn, Fits}
use Rattle.trees_value.proofs.Z.{less, neg-up, neg-dn, ext, lt_yes, lt_no}
use Rattle.trees_value.proofs.Is.{Is, is_eq, is-sub, is-ite, says-slt, says-ult}

abs-pos : (z : ℤ) → dn z ≤ up z → pos (nat_abs z) ≡ z
abs-pos (pos m) h = refl
abs-pos (negsuc m) h = absurd (omega arith)

abs_neg : (z : ℤ) → up z < dn z → pos (nat_abs z) ≡ neg_ℤ z
abs_neg (pos m) h = absurd (omega arith)
abs_neg (negsuc m) h = refl

difference : (x y : ℤ) → cond (lt_z x y) (y -ℤ x) (x -ℤ y) ≡ pos (nat_abs (x -ℤ y))
difference x y = go (lt_z x y) refl
  where
    go : (t : Bool) → lt_z x y ≡ t → cond t (y -ℤ x) (x -ℤ y) ≡ pos (nat_abs (x -ℤ y))
    go true e =
        ext (y -ℤ x) (neg_ℤ (x -ℤ y)) (omega (arith, less x y, less y x, neg-up (x -ℤ y), neg-dn (x -ℤ y)))
        ∙ sym (abs_neg (x -ℤ y) (omega (arith, less x y, lt_yes x y e)))
    go false e = sym (abs-pos (x -ℤ y) (omega (arith, less x y, lt_no x y e)))

pub is-abd : (r : ℕ → ℕ) (s : Bool) (a b : Expr) (n : ℕ) (x y : ℤ) → 0 < n → Fits s n x → Fits s n y → Is r a n x → Is r b n y
    → Is r (absolute_difference_lane s a b) n (pos (nat_abs (x -ℤ y)))
unfolding absolute_difference_lane
is-abd r true a b n x y hn f g p q = is_eq r (difference x y) (is-ite r (says-slt r hn f g p q) (is-sub r q p) (is-sub r p q))
is-abd r false a b n x y hn f g p q = is_eq r (difference x y) (is-ite r (says-ult r f g p q) (is-sub r q p) (is-sub r p q))
