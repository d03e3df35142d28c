-- No cut of a cut is left in the tree of an instruction, nor in that of a block: the statements of trees/specs/Joined.antt. The tree is itself with its
-- cuts joined, and a term that keeps the rules has no cut of a cut once they are. Assumes nothing.
use mathlib.Core.Path.{◌≡◌, refl, sym, ap, ap₂, ◌∙◌}
use mathlib.Core.Bool.{Bool, true, false, cond, not}
use mathlib.Core.List.{List, [], ◌∷◌}
use Prim.Native.Nat.{ℕ, zero, suc, ◌+◌, ◌-◌, ◌*◌, ◌≤◌, ◌<◌}
use native.Mathlib.Omega.{arith}
use native.Mathlib.Nat.{le_trans}
use lib.Dec.{eqb}
use lib.Pow.{pow_pos}
use Rattle.facts.proofs.Tests.{and_both}
use Rattle.terms.specs.Expr.{Expr, Var, Const, Extract, Concat, Bv, Compare, Ite, ZeroExtend, SignExtend, width}
use Rattle.terms.specs.Rules.{Good}
use Rattle.neon.specs.declared.Instruction.{Instruction}
use Rattle.neon.specs.Op.{Op, op_at, Arrangement, arrangement_at, bits_of_lane, full, bits_if, view}
use Rattle.neon.specs.Form.{Lanes, Same, Narrow, Long, form, has_second, reads_d, least, most, by_element, source_bits, lane_count, first_lane, second_lane}
use Rattle.neon.specs.Form.{first_full, second_full, first_bits, second_bits}
use Rattle.neon.specs.Refusal.{Legal, AllLegal}
use Rattle.neon.proofs.Geometry.{sized, source-some, filled, made-view, inside, first_in, second_in}
use Rattle.neon.proofs.Legal.{accepted, m-le}
use Rattle.trees.specs.Simd.{concat_lanes}
use Rattle.trees.specs.Neon.{neon_op}
use Rattle.trees.specs.Block.{widen_tree}
use Rattle.trees.specs.Trees.{extract_lane, result_tree, read_tree, record_tree, tree_step, tree_run}
use Rattle.trees.specs.Simd as Simd
use Rattle.trees.specs.Block as Block
use Rattle.trees.specs.Rust.{join_cuts}
use Rattle.trees.specs.Joined.{is_cut, all_joined, uncut, Source, JoinedResult, JoinedRun}
use Rattle.trees.proofs.Rewrite.{result-joins}
use Rattle.trees.proofs.Unread.{unread-second, unread-old}
use Rattle.trees_value.proofs.Fit.{Fit}
use Rattle.trees_value.proofs.FitForm.{AllFit, fit-result, fit-read, fit-step}
use Rattle.trees_value.proofs.Lane.{lane_tree}
use Rattle.trees_value.proofs.Whole.{tree_at, place_tree, as-lanes}
use Rattle.trees_value.proofs.JoinedTerms.{cut-joined, kept, same-cut}

-- ---- sources

lane-same : (t : Expr) (w n j : ℕ) → Source t w → 0 < n → n * j + n ≤ w → extract_lane t n j ≡ extract_lane (join_cuts t) n j
unfolding Simd.extract_lane
lane-same t w n j s h l = same-cut t s.ok s.below (n * j + n - 1) (n * j) (omega (arith, s.wide))

some_bits : (t : Bool) → 0 < bits_if t
some_bits true = omega arith
some_bits false = omega arith

fit-source : {t : Expr} (b : Bool) → Source t (bits_if b) → Fit t (bits_if b)
fit-source b s = record { wide = s.wide; some = some_bits b; ok = s.ok }

-- any constant
zero-source : (b : Bool) → Source (Const 0 (bits_if b)) (bits_if b)
unfolding Good width all_joined
zero-source true = record { ok = (omega arith, omega arith, pow_pos 128); wide = refl; below = refl }
zero-source false = record { ok = (omega arith, omega arith, pow_pos 64); wide = refl; below = refl }

-- ---- the tree over sources is the tree over the sources with their cuts joined

lanes-same : (last : ℕ) (f g : ℕ → Expr) → ((j : ℕ) → j ≤ last → f j ≡ g j) → concat_lanes last f ≡ concat_lanes last g
unfolding concat_lanes
lanes-same zero f g h = h 0 (omega arith)
lanes-same (suc last) f g h = ap₂ Concat (h (suc last) (omega arith)) (lanes-same last f g (λ j l. h j (omega arith)))

three : (f : Expr → Expr → Expr → Expr) {a a' b b' c c' : Expr} → a ≡ a' → b ≡ b' → c ≡ c' → f a b c ≡ f a' b' c'
three f p q r = rw (p, q, r)

module _ (o : Op) (v : Arrangement) (i : ℕ) (d a b : Expr) (l : least o ≤ i) (h : i ≤ most o (bits_of_lane v))
    (sd : Source d (view v)) (sa : Source a (first_bits o v)) (sb : Source b (second_bits o v)) where
  some-n : 0 < bits_of_lane v
  some-n = omega (arith, (sized v).eight)

  some-m : 0 < source_bits (form o).lanes (bits_of_lane v)
  some-m = source-some (form o).lanes (bits_of_lane v) (sized v).eight

  part_same : (j : ℕ) → j ≤ lane_count o v - 1 → tree_at o v i d a b j ≡ tree_at o v i (join_cuts d) (join_cuts a) (join_cuts b) j
  part_same j k =
      let g : j < lane_count o v = omega (arith, (filled (form o).lanes v).some) in
      let in-d : bits_of_lane v * j + bits_of_lane v ≤ view v = le_trans (inside v j (form o).lanes g) (made-view (form o).lanes (full v)) in
      three (lane_tree (neon_op o i (full v)) (bits_of_lane v)) (lane-same d (view v) (bits_of_lane v) j sd some-n in-d)
      (lane-same a (first_bits o v) (source_bits (form o).lanes (bits_of_lane v)) (first_lane (form o).lanes (lane_count o v) j) sa some-m
      (first_in v j (form o).lanes g))
      (lane-same b (second_bits o v) (source_bits (form o).lanes (bits_of_lane v)) (second_lane (form o).lanes (by_element o) (lane_count o v) i j) sb some-m
      (second_in v j (form o).lanes (form o).immediate i h g))

  placed_same : (f : Lanes) (t : Bool) → Source d (bits_if t) → (new : Expr) → place_tree f t new d ≡ place_tree f t new (join_cuts d)
  placed_same Same t s new = refl
  placed_same (Long u) t s new = refl
  placed_same Narrow false s new = refl
  placed_same Narrow true s new = ap (Concat new) (same-cut d s.ok s.below 63 0 (omega (arith, s.wide)))

  result-same : result_tree o v i d a b ≡ result_tree o v i (join_cuts d) (join_cuts a) (join_cuts b)
  result-same =
      as-lanes o v i d a b
      ∙ ap (λ (new : Expr). place_tree (form o).lanes (full v) new d) (lanes-same (lane_count o v - 1) _ _ part_same)
      ∙ placed_same (form o).lanes (full v) sd _
      ∙ sym (as-lanes o v i (join_cuts d) (join_cuts a) (join_cuts b))

  all_read : all_joined (result_tree o v i d a b) ≡ true
  all_read =
      let fit =
      fit-result o v i d a b l h (fit-source (full v) sd) (fit-source (first_full (form o).lanes (full v)) sa)
      (fit-source (second_full (form o).lanes (by_element o) (full v)) sb)
      in
      ap all_joined (result-same ∙ sym (result-joins o v i d a b)) ∙ (kept (result_tree o v i d a b) fit.ok).joined

-- a source that is read, or else any constant in its place
pub joined-result : JoinedResult
joined-result o v i d a b l h sd sa sb = old (reads_d o v) refl sd
  where
    second : (d : Expr) → Source d (view v) → (t : Bool) → has_second o ≡ t → (t ≡ true → Source b (second_bits o v)) → all_joined (result_tree o v i d a b) ≡ true
    second d s true e q = all_read o v i d a b l h s sa (q refl)
    second d s false e q =
        let c = Const 0 (second_bits o v) in
        ap all_joined (unread-second o v i d a b c e) ∙ all_read o v i d a c l h s sa (zero-source (second_full (form o).lanes (by_element o) (full v)))

    old : (t : Bool) → reads_d o v ≡ t → (t ≡ true → Source d (view v)) → all_joined (result_tree o v i d a b) ≡ true
    old true e q = second d (q refl) (has_second o) refl sb
    old false e q =
        let c = Const 0 (view v) in
        ap all_joined (unread-old o v i d c a b e) ∙ second c (zero-source (full v)) (has_second o) refl sb

-- ---- blocks

-- a term with no cut of a cut, below its outermost cuts
joined-below : (t : Expr) → all_joined t ≡ true → all_joined (uncut t) ≡ true
unfolding all_joined
joined-below (Extract x hi lo) e = joined-below x (and_both (not (is_cut x)) (all_joined x) e).1
joined-below (Var r) e = e
joined-below (Const v w) e = e
joined-below (Bv o a b) e = e
joined-below (Compare o a b) e = e
joined-below (Ite c a b) e = e
joined-below (Concat a b) e = e
joined-below (ZeroExtend a w) e = e
joined-below (SignExtend a w) e = e

read-joined : (whole : Bool) (t : Expr) → Fit t 128 → all_joined t ≡ true → all_joined (read_tree whole t) ≡ true
read-joined true t f e = e
read-joined false t f e = cut-joined t 63 0 f.ok (omega (arith, f.wide)) e

read-source : (whole : Bool) {t : Expr} → Fit t 128 → all_joined t ≡ true → Source (read_tree whole t) (bits_if whole)
read-source whole {t} f e =
    let g = fit-read whole f in
    record { ok = g.ok; wide = g.wide; below = joined-below (read_tree whole t) (read-joined whole t f e) }

widen-joined : (whole : Bool) (t : Expr) → all_joined t ≡ true → all_joined (widen_tree whole t) ≡ true
unfolding all_joined
widen-joined true t e = e
widen-joined false t e = e

abbrev RegistersJoined : (ℕ → Expr) → Type 0
RegistersJoined t = (x : ℕ) → x < 32 → all_joined (t x) ≡ true

joined_step : (c : Instruction) → Legal c → (t : ℕ → Expr) → AllFit t → RegistersJoined t → RegistersJoined (tree_step c t)
unfolding Block.tree_step
joined_step c k t f j x h = go (eqb x c.d)
  where
    at : (r : ℕ) → r < 32 → (whole : Bool) → Source (read_tree whole (t r)) (bits_if whole)
    at r l whole = read-source whole (f r l) (j r l)

    new : all_joined (record_tree c t) ≡ true
    new =
        unfold Block.record_tree in
        let o = op_at c.operation in
        let v = arrangement_at c.arrangement in
        let g = accepted c k in
        widen-joined (full v) _
        (joined-result o v c.i _ _ _ g.form_of.low g.form_of.high (λ e. at c.d (omega (arith, g.at-d)) (full v))
        (at c.n (omega (arith, g.at_n)) (first_full (form o).lanes (full v)))
        (λ e. at c.m (omega (arith, g.at-m, m-le o v)) (second_full (form o).lanes (by_element o) (full v))))

    go : (b : Bool) → all_joined (cond b (record_tree c t) (t x)) ≡ true
    go true = new
    go false = j x h

run-joined : (cs : List Instruction) → AllLegal cs → (t : ℕ → Expr) → AllFit t → RegistersJoined t → RegistersJoined (tree_run cs t)
unfolding Block.tree_run
run-joined [] k t f j = j
run-joined (c ∷ cs) k t f j = run-joined cs k.1 (tree_step c t) (fit-step c k.0 t f) (joined_step c k.0 t f j)

pub joined-run : JoinedRun
joined-run cs k r h =
    run-joined cs k Var (λ x l. unfold Good width in record { wide = refl; some = omega arith; ok = l }) (λ x l. unfold all_joined in refl) r h
