-- `wrap w z`, z mod 2 ^ w, carries sums, differences and products, and gives an integer of w bits back. Assumes nothing.
use mathlib.Core.Path.{◌≡◌, sym, ap, ◌∙◌}
use Prim.Native.Nat.{ℕ, zero, suc, ◌+◌, ◌-◌, ◌*◌, ◌/◌, ◌%◌, ◌^◌, ◌<◌}
use native.Mathlib.Nat.{div-add-mod', mod-lt, mod-eq_of_lt, add-mul-mod_self_right, pow-suc}
use native.Mathlib.Omega.{arith}
use lib.Pow.{pow_pos}
use lib.IntN.{ℤ, pos, negsuc, ◌+ℤ◌, ◌*ℤ◌}
use Rattle.neon.specs.Arm.{wrap}
use Rattle.trees_value.specs.Fits.{up, dn}
use Rattle.trees_value.proofs.Z.{sum, times}

pub half : (w : ℕ) → 0 < w → 2 ^ w ≡ 2 * 2 ^ (w - 1)
half zero h = absurd (omega arith)
half (suc w) h = pow-suc 2 w ∙ rw same (omega arith)
  where
    same : suc w - 1 ≡ w
    same = omega arith

-- two numbers below m that differ by a multiple of m are one
pub one-residue : (m u v i j : ℕ) → u < m → v < m → u + i * m ≡ v + j * m → u ≡ v
one-residue m u v i j hu hv e =
    sym (mod-eq_of_lt hu) ∙ sym (add-mul-mod_self_right u i m) ∙ ap (λ (x : ℕ). x % m) e ∙ add-mul-mod_self_right v j m ∙ mod-eq_of_lt hv

-- how often 2 ^ w is taken away, and how often it is added
pub over : ℕ → ℤ → ℕ
over w (pos a) = a / 2 ^ w
over w (negsuc a) = 0

pub under : ℕ → ℤ → ℕ
under w (pos a) = 0
under w (negsuc a) = suc (a / 2 ^ w)

pub wrap-eq : (w : ℕ) (z : ℤ) → wrap w z + dn z + over w z * 2 ^ w ≡ up z + under w z * 2 ^ w
unfolding wrap over under
wrap-eq w (pos a) = omega (arith, div-add-mod' a (2 ^ w))
wrap-eq w (negsuc a) = omega (arith, div-add-mod' a (2 ^ w), mod-lt a (pow_pos w))

pub wrap-lt : (w : ℕ) (z : ℤ) → wrap w z < 2 ^ w
unfolding wrap
wrap-lt w (pos a) = mod-lt a (pow_pos w)
wrap-lt w (negsuc a) = omega (arith, pow_pos w)

pub wrap-is : (w : ℕ) (z : ℤ) (v i j : ℕ) → v < 2 ^ w → v + dn z + i * 2 ^ w ≡ up z + j * 2 ^ w → v ≡ wrap w z
wrap-is w z v i j h e =
    one-residue (2 ^ w) v (wrap w z) (i + under w z) (j + over w z) h (wrap-lt w z) (omega (arith, wrap-eq w z))

pub wrap-add : (w : ℕ) (x y : ℤ) → (wrap w x + wrap w y) % 2 ^ w ≡ wrap w (x +ℤ y)
wrap-add w x y =
    wrap-is w (x +ℤ y) ((wrap w x + wrap w y) % 2 ^ w) ((wrap w x + wrap w y) / 2 ^ w + over w x + over w y) (under w x + under w y)
    (mod-lt (wrap w x + wrap w y) (pow_pos w))
    (omega (arith, wrap-eq w x, wrap-eq w y, sum x y, div-add-mod' (wrap w x + wrap w y) (2 ^ w)))

pub wrap-mul : (w : ℕ) (x y : ℤ) → (wrap w x * wrap w y) % 2 ^ w ≡ wrap w (x *ℤ y)
wrap-mul w x y =
    wrap-is w (x *ℤ y) (wrap w x * wrap w y % 2 ^ w)
    (wrap w x * wrap w y / 2 ^ w + over w x * wrap w y + up x * over w y + dn x * under w y)
    (under w x * wrap w y + up x * under w y + dn x * over w y)
    (mod-lt (wrap w x * wrap w y) (pow_pos w))
    (omega (
      arith,
      ap (λ (t : ℕ). t * wrap w y) (wrap-eq w x),
      ap (λ (t : ℕ). up x * t) (wrap-eq w y),
      ap (λ (t : ℕ). dn x * t) (wrap-eq w y),
      times x y,
      div-add-mod' (wrap w x * wrap w y) (2 ^ w),
    ))
