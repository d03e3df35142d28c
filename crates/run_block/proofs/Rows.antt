-- The layout of each operation's family is that of its row. Assumes nothing.
use mathlib.Core.Path.{◌≡◌, refl, sym, ap, ap₂, ◌∙◌, subst}
use mathlib.Core.Bool.{Bool, true, false, cond, ◌&&◌, ◌||◌}
use Prim.Native.Nat.{ℕ, zero, suc, ◌+◌, ◌*◌, ◌%◌, ◌^◌, ◌≤◌, ◌<◌}
use native.Mathlib.Omega.{arith}
use native.Mathlib.Nat.{add-zero}
use Rattle.neon.specs.Op.{Op, Arrangement, bits_of_lane, full, B8, B16, H4, H8, S2, S4, D2}
use Rattle.neon.specs.Form.{Form, form, has_form, least, most, by_element, is_element}
use Rattle.neon.specs.Form.{Lanes, Same, Narrow, Long, is_narrow, source_bits, made_bits, lane_count, first_lane, second_lane, first_full, second_full}
use Rattle.neon.specs.Arm.{lanes, arm_at, arm_result}
use Rattle.neon.specs.Run.{read_bits}
use Rattle.wide.specs.Number.{words}
use Rattle.neon.proofs.Geometry.{sized, filled, by-half, inside, first_in, second_in, bits-le, made-max, source-some}
use Rattle.neon.proofs.Lanes.{lanes-eq, lanes-lt}
use Rattle.trees.specs.Neon.{neon_op, shape_of}
use Rattle.trees.specs.declared.NeonOp.{NeonOp}
use Rattle.trees.specs.declared.NeonShape.{NeonShape}
use Rattle.run_block.specs.declared.Ran.{Ran}
use Rattle.run_block.specs.Run.{Made, Placed, ResultOf}
use Rattle.saturation.specs.Saturates.{saturates_at, saturates, some}
use Rattle.saturation.proofs.Family.{family-is, beyond-is}
use Rattle.lower_shape.proofs.Table.{Family, family}
use Rattle.run_lanes.specs.Rows.{RowIn, source_of}
use Rattle.run_block.specs.declared.Layout.{Layout}
use Rattle.run_block.proofs.Running.{lane-by-lt}
use Rattle.run_block.specs.Lanes.{InWord, second_at, Within, lane_by, beyond_by, RanLanes}
use Rattle.run_block.specs.Layout.{layout, layout_of, source_by, skip_by, first_by, second_by}

pub record Laid (y : Layout) (l : Lanes) (e : Bool) : Type 0 where
  pub narrow : y.narrow ≡ is_narrow l
  pub source : (n : ℕ) → source_by y n ≡ source_bits l n
  pub first : (k j : ℕ) → j + skip_by y k ≡ first_lane l k j
  pub second : (k i j : ℕ) → second_at y.element i (skip_by y k) j ≡ second_lane l e k i j
  pub first-full : (w : Bool) → first_by y w ≡ first_full l w
  pub second-full : (w : Bool) → second_by y w ≡ second_full l e w

same-laid : (e : Bool) → Laid (layout false false false false) Same e
same-laid e = record { narrow = refl; source = λ n. refl; first = λ k j. add-zero j; second = λ k i j. add-zero j; first-full = λ w. refl; second-full = λ w. refl }

narrow-laid : (e : Bool) → Laid (layout true false false false) Narrow e
narrow-laid e = record { narrow = refl; source = λ n. refl; first = λ k j. add-zero j; second = λ k i j. add-zero j; first-full = λ w. refl; second-full = λ w. refl }

long-laid : (u e : Bool) → Laid (layout false true u e) (Long u) e
long-laid u e = record { narrow = refl; source = λ n. refl; first = λ k j. go u k j; second = λ k i j. by e u k i j; first-full = λ w. refl; second-full = λ w. refl }
  where
    go : (u : Bool) (k j : ℕ) → j + cond u k 0 ≡ cond u (j + k) j
    go true k j = refl
    go false k j = add-zero j

    by : (e u : Bool) (k i j : ℕ) → cond e i (j + cond u k 0) ≡ cond e i (cond u (j + k) j)
    by true u k i j = refl
    by false u k i j = go u k j

-- the lanes of a family p lie as the form f says
pub record RowOf (v : Arrangement) (p : NeonOp) (f : Form) : Type 0 where
  pub laid : Laid (layout_of p) f.lanes (is_element f.immediate)
  pub source : source_of p (bits_of_lane v) ≡ source_bits f.lanes (bits_of_lane v)
  pub in_row : RowIn p (bits_of_lane v)
  pub source-le : source_bits f.lanes (bits_of_lane v) ≤ 64

abbrev pub Row : (o : Op) (v : Arrangement) (i : ℕ) → Type 0
Row o v i = RowOf v (neon_op o i (full v)) (form o)

row_of : (v : Arrangement) (i : ℕ) {p : NeonOp} {f : Form} → Family v i p f → RowOf v p f
row_of v i (Family.shift-left h) = record { laid = same-laid false; source = refl; in_row = h; source-le = (sized v).most }
row_of v i (Family.shift-right l m) = record { laid = same-laid false; source = refl; in_row = (l, m); source-le = (sized v).most }
row_of v i Family.shift-register = record { laid = same-laid false; source = refl; in_row = tt; source-le = (sized v).most }
row_of v i (Family.insert-left h) = record { laid = same-laid false; source = refl; in_row = h; source-le = (sized v).most }
row_of v i (Family.insert-right l m) = record { laid = same-laid false; source = refl; in_row = (l, m); source-le = (sized v).most }
row_of v i Family.add-sub = record { laid = same-laid false; source = refl; in_row = (sized v).most; source-le = (sized v).most }
row_of v i Family.halving = record { laid = same-laid false; source = refl; in_row = (sized v).most; source-le = (sized v).most }
row_of v i (Family.narrow h) = record { laid = narrow-laid false; source = refl; in_row = h; source-le = omega (arith, h) }
row_of v i (Family.shift-narrow h l m) = record { laid = narrow-laid false; source = refl; in_row = (h, l, m); source-le = omega (arith, h) }
row_of v i Family.unary = record { laid = same-laid false; source = refl; in_row = (sized v).most; source-le = (sized v).most }
row_of v i (Family.multiply-high h) = record { laid = same-laid false; source = refl; in_row = h; source-le = (sized v).most }
row_of v i (Family.long x {u} {e} h m) = record { laid = long-laid u (is_element e); source = refl; in_row = omega (arith, (sized v).eight); source-le = omega (arith, (sized v).most) }
row_of v i Family.mixed-sign = record { laid = same-laid false; source = refl; in_row = (sized v).most; source-le = (sized v).most }
row_of v i (Family.difference x) = record { laid = same-laid false; source = refl; in_row = (sized v).most; source-le = (sized v).most }
row_of v i Family.bitwise = record { laid = same-laid false; source = refl; in_row = (sized v).most; source-le = (sized v).most }
row_of v i (Family.high-narrow h) = record { laid = narrow-laid false; source = refl; in_row = h; source-le = omega (arith, h) }

pub row : (o : Op) (v : Arrangement) (i : ℕ) → has_form o v ≡ true → least o ≤ i → i ≤ most o (bits_of_lane v) → Row o v i
row o v i h l m = row_of v i (family o v i h l m)

-- ---- source lanes in words
source-word : (l : Lanes) (v : Arrangement) → source_bits l (bits_of_lane v) ≤ 64 → InWord (source_bits l (bits_of_lane v))
source-word Same v h = (by-half v).fill
source-word Narrow B8 h = refl
source-word Narrow B16 h = refl
source-word Narrow H4 h = refl
source-word Narrow H8 h = refl
source-word Narrow S2 h = refl
source-word Narrow S4 h = refl
source-word Narrow D2 h = absurd (omega arith)
source-word (Long u) B8 h = refl
source-word (Long u) B16 h = refl
source-word (Long u) H4 h = refl
source-word (Long u) H8 h = refl
source-word (Long u) S2 h = refl
source-word (Long u) S4 h = refl
source-word (Long u) D2 h = refl

module _ (o : Op) (v : Arrangement) (i : ℕ) (r : Row o v i) (hi : i ≤ most o (bits_of_lane v)) where
  abbrev y : Layout
  y = layout_of (neon_op o i (full v))

  abbrev l : Lanes
  l = (form o).lanes

  abbrev n : ℕ
  n = bits_of_lane v

  abbrev k : ℕ
  k = lane_count o v

  pub within : Within n (source_by y n) k (skip_by y k) y.element i
  within = rw (r.laid.source n) (record {
    lane_in = λ j h. omega (arith, inside v j l h, made-max l (full v));
    first_in = λ j h. subst (λ (t : ℕ). source_bits l n * t + source_bits l n ≤ 128) (sym (r.laid.first k j)) (omega (arith, first_in v j l h, bits-le (first_full l (full v))));
    second_in = λ j h. subst (λ (t : ℕ). source_bits l n * t + source_bits l n ≤ 128) (sym (r.laid.second k i j))
        (omega (arith, second_in v j l (form o).immediate i hi h, bits-le (second_full l (by_element o) (full v))));
    n_word = (by-half v).fill;
    m_word = source-word l v r.source-le;
  })

  pub source_is : source_by y n ≡ source_of (neon_op o i (full v)) n
  source_is = r.laid.source n ∙ sym r.source

  pub source-pos : 0 < source_by y n
  source-pos = subst (λ (t : ℕ). 0 < t) (sym (r.laid.source n)) (source-some l n (sized v).eight)

  -- lane by lane
  pub lane-is : (d a b j : ℕ) → lane_by (neon_op o i (full v)) n (source_by y n) (skip_by y k) y.element i d a b j ≡ arm_at o v i d a b j
  unfolding arm_at
  lane-is d a b j =
      rw (r.laid.source n, r.laid.second k i j, r.laid.first k j) (family-is o n i _ _ _ (full v))

  pub beyond-at : (d a b j : ℕ) → beyond_by (neon_op o i (full v)) n (source_by y n) (skip_by y k) y.element i d a b j ≡ saturates_at o v i d a b j
  unfolding saturates_at
  beyond-at d a b j =
      rw (r.laid.source n, r.laid.second k i j, r.laid.first k j) (beyond-is o n i _ _ _ (full v))

pub some-eq : (k : ℕ) (f g : ℕ → Bool) → ((j : ℕ) → f j ≡ g j) → some k f ≡ some k g
unfolding some
some-eq zero f g h = refl
some-eq (suc k) f g h = ap₂ ◌||◌ (some-eq k f g h) (h k)

-- ---- as the code has it
module _ (o : Op) (v : Arrangement) (i : ℕ) (r : Row o v i) (hi : i ≤ most o (bits_of_lane v)) (s : NeonShape) (es : s ≡ shape_of o v i) where
  pub n-le : s.lane_bits ≤ 64
  n-le = rw es (sized v).most

  module _ (z : Layout) (ey : z ≡ layout_of s.op) (m skip : ℕ) (em : m ≡ source_by z s.lane_bits) (ek : skip ≡ skip_by z s.lanes) where
    pub asked : (0 < s.lane_bits) × (0 < m) × (m ≡ source_of s.op s.lane_bits) × RowIn s.op s.lane_bits
        × Within s.lane_bits m s.lanes skip z.element i
    asked = rw (em, ek, ey, es) (omega (arith, (sized v).eight), source-pos o v i r hi, source_is o v i r hi, r.in_row, within o v i r hi)

    pub ran-is : (d a b : ℕ) (x : Ran)
        → RanLanes s.lane_bits s.lanes (lane_by s.op s.lane_bits m skip z.element i d a b) (beyond_by s.op s.lane_bits m skip z.element i d a b) x
        → Made (lanes (bits_of_lane v) (lane_count o v) (arm_at o v i d a b)) (saturates o v i d a b) x
    unfolding saturates
    ran-is d a b x p =
        let q = rw (em, ek, ey, es) at p in
        record {
          bits_are = q.bits_are ∙ lanes-eq (bits_of_lane v) (lane_count o v) _ (arm_at o v i d a b) (λ j l. lane-is o v i r hi d a b j);
          saturated_is = q.saturated_is ∙ some-eq (lane_count o v) _ (saturates_at o v i d a b) (beyond-at o v i r hi d a b);
        }

    -- lanes that narrow make 64 bits
    pub narrow-lt : (d a b : ℕ) (x : Ran)
        → RanLanes s.lane_bits s.lanes (lane_by s.op s.lane_bits m skip z.element i d a b) (beyond_by s.op s.lane_bits m skip z.element i d a b) x
        → z.narrow ≡ true → words x.low x.high 0 < 2 ^ 64
    narrow-lt d a b x p e =
        let op = neon_op o i (full v) in
        let q = rw (em, ek, ey, es) at p in
        let t : is_narrow (form o).lanes ≡ true = sym r.laid.narrow ∙ sym (ap (λ (y : Layout). y.narrow) (ey ∙ ap (λ (w : NeonShape). layout_of w.op) es)) ∙ e in
        rw q.bits_are
        (subst
        (λ (w : ℕ). lanes (bits_of_lane v) (lane_count o v)
        (lane_by op (bits_of_lane v) (source_by (layout_of op) (bits_of_lane v)) (skip_by (layout_of op) (lane_count o v)) (layout_of op).element i d a b) < 2 ^ w)
        ((filled (form o).lanes v).fill ∙ made-narrow (form o).lanes (full v) t)
        (lanes-lt (bits_of_lane v) (lane_count o v) _
        (lane-by-lt op (bits_of_lane v) (source_by (layout_of op) (bits_of_lane v)) (skip_by (layout_of op) (lane_count o v)) (layout_of op).element i d a b
        (omega (arith, (sized v).eight)) (sized v).most (source_is o v i r hi) r.in_row)))
      where
        made-narrow : (l : Lanes) (w : Bool) → is_narrow l ≡ true → made_bits l w ≡ 64
        made-narrow l w e = rw e

    -- the whole result, from what the code reads
    pub result-is : (whole : Bool) (ew : whole ≡ full v) (t u : Bool) (et : t ≡ first_by z whole) (eu : u ≡ second_by z whole) (d a b d' a' b' : ℕ)
        → d' ≡ read_bits whole d → a' ≡ read_bits t a → b' ≡ read_bits u b → (x f : Ran)
        → RanLanes s.lane_bits s.lanes (lane_by s.op s.lane_bits m skip z.element i d' a' b') (beyond_by s.op s.lane_bits m skip z.element i d' a' b') x
        → Placed (z.narrow && whole) x d' f
        → ResultOf o v i d a b f
    unfolding arm_result
    result-is whole ew t u et eu d a b d' a' b' ed ea eb x f p g =
        let made = ran-is d' a' b' x p in
        let laid = ey ∙ ap (λ (w : NeonShape). layout_of w.op) es in
        let narrow : z.narrow ≡ is_narrow (form o).lanes = ap (λ (y : Layout). y.narrow) laid ∙ r.laid.narrow in
        let old : d' ≡ read_bits (full v) d = ed ∙ ap (λ (w : Bool). read_bits w d) ew in
        let first : a' ≡ read_bits (first_full (form o).lanes (full v)) a =
        ea ∙ ap (λ (w : Bool). read_bits w a) (et ∙ ap₂ first_by laid ew ∙ r.laid.first-full (full v)) in
        let second : b' ≡ read_bits (second_full (form o).lanes (by_element o) (full v)) b =
        eb ∙ ap (λ (w : Bool). read_bits w b) (eu ∙ ap₂ second_by laid ew ∙ r.laid.second-full (full v)) in
        rw (← old, ← first, ← second)
        (record {
          bits_are = g.bits_are ∙ ap₂ (λ (c : Bool) (new : ℕ). cond c (new * 2 ^ 64 + d' % 2 ^ 64) new) (ap₂ ◌&&◌ narrow ew) made.bits_are;
          saturated_is = g.saturated_is ∙ made.saturated_is;
        })
