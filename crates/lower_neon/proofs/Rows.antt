-- What each operation's family reads, makes and needs is what its row says. Assumes nothing.
use mathlib.Core.Path.{◌≡◌, refl, ap}
use mathlib.Core.Bool.{Bool, true, false, ◌&&◌, ◌||◌, false≢true}
use Prim.Native.Nat.{ℕ, ◌+◌, ◌-◌, ◌*◌, ◌/◌, ◌≤◌}
use native.Mathlib.Omega.{arith}
use Rattle.neon.specs.Op.{Op, Arrangement, bits_of_lane, full, bits_if, view}
use Rattle.neon.specs.Form.{Form, Same, Long, Element, form, has_form, least, most, m_in, d_in, is_element, is_narrow, first_full, second_full, made_bits}
use Rattle.neon.proofs.Geometry.{sized, filled, by-half, second_in, bits-le}
use Rattle.std.specs.declared.option.Option.TheVariants.{None, Some}
use Rattle.trees.specs.declared.NeonOp.{NeonOp}
use Rattle.trees.specs.Neon.{neon_op}
use Rattle.lower.specs.Builds.{with_lower}
use Rattle.lower_doubling_long.specs.Elements.{factor_bits, second_factor_bits}
use Rattle.lower_shape.proofs.Table.{Family, family}
use Rattle.lower_neon.specs.Family.{reads_second, reads_old, keeps_lower, old_width, first_width, second_width, FamilyIn}

abbrev count : Arrangement → Form → ℕ
count v f = made_bits f.lanes (full v) / bits_of_lane v

-- what a family p reads, makes and needs is what the form f says
pub record RowOf (v : Arrangement) (i : ℕ) (p : NeonOp) (f : Form) : Type 0 where
  pub second : reads_second p ≡ m_in f.reads
  pub old : reads_old p ≡ (d_in f.reads || is_narrow f.lanes && full v)
  pub wide : with_lower (keeps_lower p) (bits_of_lane v * count v f) ≡ view v
  pub old-wide : reads_old p ≡ true → old_width p (bits_of_lane v) (count v f) ≡ view v
  pub first-wide : first_width p (bits_of_lane v) (count v f) ≡ bits_if (first_full f.lanes (full v))
  pub second-wide : reads_second p ≡ true → second_width p (bits_of_lane v) (count v f) ≡ bits_if (second_full f.lanes (is_element f.immediate) (full v))
  pub in_row : FamilyIn p (bits_of_lane v) (count v f) i

abbrev pub Row : (o : Op) (v : Arrangement) (i : ℕ) → Type 0
Row o v i = RowOf v i (neon_op o i (full v)) (form o)

module _ (v : Arrangement) where
  -- lanes that keep their width fill the view
  same : bits_of_lane v * (view v / bits_of_lane v) ≡ view v
  same = (filled Same v).fill

  same-le : bits_of_lane v * (view v / bits_of_lane v) ≤ 128
  same-le = omega (arith, same, bits-le (full v))

  -- lanes that narrow fill 64 bits, which are above 64 more in a 2 form
  half : bits_of_lane v * (64 / bits_of_lane v) ≡ 64
  half = (by-half v).fill

  narrow_wide : with_lower (full v) (bits_of_lane v * (64 / bits_of_lane v)) ≡ view v
  narrow_wide = go (full v)
    where
      go : (f : Bool) → with_lower f (bits_of_lane v * (64 / bits_of_lane v)) ≡ bits_if f
      go true = omega (arith, half)
      go false = half

  narrow-old : full v ≡ true → bits_of_lane v * (64 / bits_of_lane v) * 2 ≡ view v
  narrow-old e = rw e (omega (arith, half))

  narrow-source : bits_of_lane v * 2 * (64 / bits_of_lane v) ≡ 128
  narrow-source = omega (arith, half)

  narrow-le : bits_of_lane v * 2 * (64 / bits_of_lane v) ≤ 128
  narrow-le = omega (arith, half)

  half_le : (upper : full v ≡ true) → bits_of_lane v * (64 / bits_of_lane v) ≤ 64
  half_le upper = omega (arith, half)

  -- factors of half the bits are one half of a full view
  factors : full v ≡ true → bits_of_lane v / 2 * (view v / bits_of_lane v) ≡ 64
  factors e =
      let all : view v ≡ 128 = rw e refl in
      omega (arith, same, all, ap (λ (t : ℕ). t * (view v / bits_of_lane v)) (sized v).even)

  long-first : (u : Bool) → full v ≡ true → factor_bits u (bits_of_lane v) (view v / bits_of_lane v) ≡ bits_if u
  long-first true e = omega (arith, factors e)
  long-first false e = factors e

  long-second : (u e : Bool) → full v ≡ true → second_factor_bits e u (bits_of_lane v) (view v / bits_of_lane v) ≡ bits_if (u || e)
  long-second true true h = refl
  long-second false true h = refl
  long-second true false h = long-first true h
  long-second false false h = long-first false h

  element : (i : ℕ) → i ≤ 256 / bits_of_lane v - 1 → bits_of_lane v / 2 * i + bits_of_lane v / 2 ≤ 128
  element i h = second_in v 0 (Long true) Element i h (omega (arith, (filled (Long true) v).some))

never : {A : Type 0} → false ≡ true → A
never e = absurd (false≢true e)

row_of : (v : Arrangement) (i : ℕ) {p : NeonOp} {f : Form} → Family v i p f → RowOf v i p f
row_of v i (Family.shift-left h) = record { second = refl; old = refl; wide = same v; old-wide = never; first-wide = same v; second-wide = never; in_row = h }
row_of v i (Family.shift-right l m) = record { second = refl; old = refl; wide = same v; old-wide = never; first-wide = same v; second-wide = never; in_row = (l, m) }
row_of v i Family.shift-register = record { second = refl; old = refl; wide = same v; old-wide = never; first-wide = same v; second-wide = λ e. same v; in_row = tt }
row_of v i (Family.insert-left h) = record { second = refl; old = refl; wide = same v; old-wide = λ e. same v; first-wide = same v; second-wide = never; in_row = omega (arith, h) }
row_of v i (Family.insert-right l m) = record { second = refl; old = refl; wide = same v; old-wide = λ e. same v; first-wide = same v; second-wide = never; in_row = m }
row_of v i Family.add-sub = record { second = refl; old = refl; wide = same v; old-wide = never; first-wide = same v; second-wide = λ e. same v; in_row = ((sized v).most, same-le v, never) }
row_of v i Family.halving = record { second = refl; old = refl; wide = same v; old-wide = never; first-wide = same v; second-wide = λ e. same v; in_row = ((sized v).most, same-le v, never) }
row_of v i (Family.narrow h) =
    record { second = refl; old = refl; wide = narrow_wide v; old-wide = narrow-old v; first-wide = narrow-source v; second-wide = never; in_row = (h, narrow-le v, half_le v) }
row_of v i (Family.shift-narrow h l m) =
    record { second = refl; old = refl; wide = narrow_wide v; old-wide = narrow-old v; first-wide = narrow-source v; second-wide = never; in_row = ((h, l, m), narrow-le v, half_le v) }
row_of v i Family.unary = record { second = refl; old = refl; wide = same v; old-wide = never; first-wide = same v; second-wide = never; in_row = ((sized v).most, same-le v, never) }
row_of v i (Family.multiply-high h) = record { second = refl; old = refl; wide = same v; old-wide = never; first-wide = same v; second-wide = λ e. same v; in_row = (h, same-le v, never) }
row_of v i (Family.long None {u} {e} h m) =
    record { second = refl; old = refl; wide = same v; old-wide = never; first-wide = long-first v u h; second-wide = λ t. long-second v u (is_element e) h; in_row = element v i m }
row_of v i (Family.long (Some op) {u} {e} h m) =
    record { second = refl; old = refl; wide = same v; old-wide = λ t. same v; first-wide = long-first v u h; second-wide = λ t. long-second v u (is_element e) h; in_row = element v i m }
row_of v i Family.mixed-sign = record { second = refl; old = refl; wide = same v; old-wide = λ e. same v; first-wide = same v; second-wide = never; in_row = tt }
row_of v i (Family.difference true) = record { second = refl; old = refl; wide = same v; old-wide = λ e. same v; first-wide = same v; second-wide = λ e. same v; in_row = tt }
row_of v i (Family.difference false) = record { second = refl; old = refl; wide = same v; old-wide = never; first-wide = same v; second-wide = λ e. same v; in_row = tt }
row_of v i Family.bitwise = record { second = refl; old = refl; wide = same v; old-wide = never; first-wide = same v; second-wide = never; in_row = tt }
row_of v i (Family.high-narrow h) =
    record { second = refl; old = refl; wide = narrow_wide v; old-wide = narrow-old v; first-wide = narrow-source v; second-wide = λ e. narrow-source v; in_row = (h, narrow-le v) }

pub row : (o : Op) (v : Arrangement) (i : ℕ) → has_form o v ≡ true → least o ≤ i → i ≤ most o (bits_of_lane v) → Row o v i
row o v i h l m = row_of v i (family o v i h l m)
