-- Widths and counts of lanes: lanes fill the bits that are made, and source lanes lie within the bits that are read. Assumes nothing.
use mathlib.Core.Path.{◌≡◌, refl, ap}
use mathlib.Core.Bool.{Bool, true, false, cond, ◌||◌}
use Prim.Native.Nat.{ℕ, suc, ◌+◌, ◌-◌, ◌*◌, ◌/◌, ◌≤◌, ◌<◌}
use native.Mathlib.Omega.{arith}
use native.Mathlib.Nat.{mul-le-mul_left}
use Rattle.neon.specs.Op.{Arrangement, B8, B16, H4, H8, S2, S4, D2, bits_of_lane, full, bits_if, view}
use Rattle.neon.specs.Form.{Lanes, Same, Narrow, Long, Immediate, None, Left, Right, Element, most_of, is_element, source_bits, made_bits, first_lane, second_lane, first_full, second_full}
use Rattle.neon.specs.Form.{immediate_code}

-- the lane widths, computed
pub record Sized (v : Arrangement) : Type 0 where
  pub eight : 8 ≤ bits_of_lane v
  pub most : bits_of_lane v ≤ 64
  pub even : bits_of_lane v / 2 * 2 ≡ bits_of_lane v
  pub elements : bits_of_lane v * (256 / bits_of_lane v - 1) + bits_of_lane v ≤ 256

pub sized : (v : Arrangement) → Sized v
sized B8 = record { eight = omega arith; most = omega arith; even = refl; elements = omega arith }
sized B16 = record { eight = omega arith; most = omega arith; even = refl; elements = omega arith }
sized H4 = record { eight = omega arith; most = omega arith; even = refl; elements = omega arith }
sized H8 = record { eight = omega arith; most = omega arith; even = refl; elements = omega arith }
sized S2 = record { eight = omega arith; most = omega arith; even = refl; elements = omega arith }
sized S4 = record { eight = omega arith; most = omega arith; even = refl; elements = omega arith }
sized D2 = record { eight = omega arith; most = omega arith; even = refl; elements = omega arith }

pub source-some : (l : Lanes) (n : ℕ) → 8 ≤ n → 0 < source_bits l n
source-some Same n h = omega arith
source-some Narrow n h = omega arith
source-some (Long u) n h = omega arith

-- lanes of n bits fill m bits
pub record Filled (m n : ℕ) : Type 0 where
  pub some : suc (m / n - 1) ≡ m / n
  pub fill : n * (m / n) ≡ m

full-and-half : (v : Arrangement) → Filled (view v) (bits_of_lane v) × Filled 64 (bits_of_lane v)
full-and-half B8 = (record { some = refl; fill = refl }, record { some = refl; fill = refl })
full-and-half B16 = (record { some = refl; fill = refl }, record { some = refl; fill = refl })
full-and-half H4 = (record { some = refl; fill = refl }, record { some = refl; fill = refl })
full-and-half H8 = (record { some = refl; fill = refl }, record { some = refl; fill = refl })
full-and-half S2 = (record { some = refl; fill = refl }, record { some = refl; fill = refl })
full-and-half S4 = (record { some = refl; fill = refl }, record { some = refl; fill = refl })
full-and-half D2 = (record { some = refl; fill = refl }, record { some = refl; fill = refl })

by-view : (v : Arrangement) → Filled (view v) (bits_of_lane v)
by-view v = (full-and-half v).0

pub by-half : (v : Arrangement) → Filled 64 (bits_of_lane v)
by-half v = (full-and-half v).1

pub filled : (l : Lanes) (v : Arrangement) → Filled (made_bits l (full v)) (bits_of_lane v)
filled Same v = by-view v
filled Narrow v = by-half v
filled (Long u) v = by-view v

pub bits-le : (t : Bool) → bits_if t ≤ 128
bits-le true = omega arith
bits-le false = omega arith

pub made-max : (l : Lanes) (t : Bool) → made_bits l t ≤ 128
made-max Same t = bits-le t
made-max Narrow t = omega arith
made-max (Long u) t = bits-le t

pub made-view : (l : Lanes) (t : Bool) → made_bits l t ≤ bits_if t
made-view Same t = omega arith
made-view Narrow true = omega arith
made-view Narrow false = omega arith
made-view (Long u) t = omega arith

-- lane j, and the lanes of the sources that go into it
module _ (v : Arrangement) (j : ℕ) where
  pub inside : (l : Lanes) → j < made_bits l (full v) / bits_of_lane v → bits_of_lane v * j + bits_of_lane v ≤ made_bits l (full v)
  inside l h = omega (arith, (filled l v).fill, mul-le-mul_left (bits_of_lane v) h)

  halves : bits_of_lane v / 2 * 2 * j ≡ bits_of_lane v * j
  halves = ap (λ (t : ℕ). t * j) (sized v).even

  -- the lanes from the middle on
  upper_in : j < view v / bits_of_lane v → bits_of_lane v / 2 * (j + view v / bits_of_lane v) + bits_of_lane v / 2 ≤ 128
  upper_in h =
      omega (
        arith,
        inside (Long true) h,
        halves,
        (filled (Long true) v).fill,
        made-max (Long true) (full v),
        (sized v).even,
        ap (λ (t : ℕ). t * (view v / bits_of_lane v)) (sized v).even,
      )

  lower_in : j < view v / bits_of_lane v → bits_of_lane v / 2 * j + bits_of_lane v / 2 ≤ 64
  lower_in h = omega (arith, inside (Long false) h, halves, made-max (Long false) (full v), (sized v).even)

  pub first_in : (l : Lanes) → j < made_bits l (full v) / bits_of_lane v
      → source_bits l (bits_of_lane v) * first_lane l (made_bits l (full v) / bits_of_lane v) j + source_bits l (bits_of_lane v) ≤ bits_if (first_full l (full v))
  first_in Same h = inside Same h
  first_in Narrow h = omega (arith, inside Narrow h)
  first_in (Long true) h = upper_in h
  first_in (Long false) h = lower_in h

  pub second_in : (l : Lanes) (m : Immediate) (i : ℕ) → i ≤ most_of m (bits_of_lane v) → j < made_bits l (full v) / bits_of_lane v
      → source_bits l (bits_of_lane v) * second_lane l (is_element m) (made_bits l (full v) / bits_of_lane v) i j + source_bits l (bits_of_lane v)
      ≤ bits_if (second_full l (is_element m) (full v))
  second_in Same m i l h = inside Same h
  second_in Narrow m i l h = omega (arith, inside Narrow h)
  second_in (Long u) m i l h = go u m l
    where
      element-in : i ≤ 256 / bits_of_lane v - 1 → bits_of_lane v / 2 * i + bits_of_lane v / 2 ≤ 128
      element-in l =
          omega (arith, mul-le-mul_left (bits_of_lane v) l, (sized v).even, ap (λ (t : ℕ). t * i) (sized v).even, (sized v).elements)

      go : (u : Bool) (m : Immediate) → i ≤ most_of m (bits_of_lane v)
          → bits_of_lane v / 2 * cond (is_element m) i (cond u (j + view v / bits_of_lane v) j) + bits_of_lane v / 2 ≤ bits_if (u || is_element m)
      go true None l = upper_in h
      go true Left l = upper_in h
      go true Right l = upper_in h
      go true Element l = element-in l
      go false None l = lower_in h
      go false Left l = lower_in h
      go false Right l = lower_in h
      go false Element l = element-in l

-- the part of a form code that tells the immediates has three bits
pub immediate-le : (i : Immediate) → immediate_code i ≤ 4
immediate-le None = omega arith
immediate-le Left = omega arith
immediate-le Right = omega arith
immediate-le Element = omega arith
