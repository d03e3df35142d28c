-- The value of the term of a whole result is the Arm result, at every operation, arrangement and immediate of its row. Assumes nothing.
use mathlib.Core.Path.{◌≡◌, refl, ap, ◌∙◌}
use mathlib.Core.Bool.{Bool, true, false}
use Prim.Native.Nat.{ℕ, suc, ◌-◌, ◌*◌, ◌/◌, ◌≤◌, ◌<◌}
use native.Mathlib.Omega.{arith}
use native.Mathlib.Nat.{div-one}
use Rattle.terms.specs.Expr.{Expr, Concat, width}
use Rattle.terms.specs.Value.{value}
use Rattle.neon.specs.Op.{Op, Arrangement, bits_of_lane, full, bits_if, view}
use Rattle.neon.specs.Form.{Lanes, Same, Narrow, Long, form, least, most, source_bits, made_bits, lane_count, first_lane, second_lane, by_element}
use Rattle.neon.specs.Arm.{lane, lanes, arm_at, place_bits, arm_result}
use Rattle.neon.proofs.Lanes.{lanes-eq}
use Rattle.neon.proofs.Geometry.{sized, source-some, filled, by-half}
use Rattle.trees.specs.Simd.{extract_collapsing, concat_lanes}
use Rattle.trees.specs.Arith.{shift_insert_lane}
use Rattle.trees.specs.Neon.{neon_op}
use Rattle.trees.specs.Trees.{extract_lane, keep_lower, result_tree}
use Rattle.trees.specs.Arith as Arith
use Rattle.trees.specs.Width as Width
use Rattle.trees.specs.Neon as Neon
use Rattle.trees_value.proofs.Is.{Has, has-number}
use Rattle.trees_value.proofs.Lanes.{cut-value, cut-width, is-lane, lane-lt, concat-width, concat-value}
use Rattle.trees_value.proofs.Lane.{lane_tree, lane-is, sources}

-- ---- the families' loops, as one: lane j is made of lanes of the sources, and a narrowing 2 form goes above d's lower half
abbrev pub tree_at : Op → Arrangement → (i : ℕ) (d a b : Expr) (j : ℕ) → Expr
tree_at o v i d a b j =
    let n = bits_of_lane v in
    let l = (form o).lanes in
    lane_tree (neon_op o i (full v)) n (extract_lane d n j) (extract_lane a (source_bits l n) (first_lane l (lane_count o v) j))
    (extract_lane b (source_bits l n) (second_lane l (by_element o) (lane_count o v) i j))

abbrev pub place_tree : Lanes → Bool → Expr → Expr → Expr
place_tree Same v new d = new
place_tree Narrow true new d = Concat new (extract_collapsing d 63 0)
place_tree Narrow false new d = new
place_tree (Long u) v new d = new

-- the low half that is kept has as many bits as the k new lanes
kept_half : (v : Arrangement) → bits_of_lane v * (64 / bits_of_lane v) - 1 ≡ 63
kept_half v = ap (λ (t : ℕ). t - 1) (by-half v).fill

keeps : (v : Arrangement) (t : Bool) (new d : Expr) → keep_lower t new d (bits_of_lane v) (64 / bits_of_lane v) ≡ place_tree Narrow t new d
keeps v true new d = ap (λ (hi : ℕ). Concat new (extract_collapsing d hi 0)) (kept_half v)
keeps v false new d = refl

pub as-lanes : (o : Op) (v : Arrangement) (i : ℕ) (d a b : Expr)
    → result_tree o v i d a b ≡ place_tree (form o).lanes (full v) (concat_lanes (lane_count o v - 1) (tree_at o v i d a b)) d
unfolding Neon.result_tree Arith.shift_lanes shift_insert_lane Arith.shift_insert_lanes Arith.mixed_sign_add_lanes Arith.doubling_long_lanes
    Arith.saturating_lanes Arith.bitwise_unary_lanes Arith.absolute_difference_lanes Width.high_narrow_lanes
as-lanes Op.SHL v i d a b = refl
as-lanes Op.SQSHLI v i d a b = refl
as-lanes Op.UQSHLI v i d a b = refl
as-lanes Op.SQSHLU v i d a b = refl
as-lanes Op.SSHR v i d a b = refl
as-lanes Op.USHR v i d a b = refl
as-lanes Op.SRSHR v i d a b = refl
as-lanes Op.URSHR v i d a b = refl
as-lanes Op.SSHL v i d a b = refl
as-lanes Op.USHL v i d a b = refl
as-lanes Op.SRSHL v i d a b = refl
as-lanes Op.URSHL v i d a b = refl
as-lanes Op.SQSHL v i d a b = refl
as-lanes Op.UQSHL v i d a b = refl
as-lanes Op.SQRSHL v i d a b = refl
as-lanes Op.UQRSHL v i d a b = refl
as-lanes Op.SLI v i d a b = refl
as-lanes Op.SRI v i d a b = refl
as-lanes Op.SQADD v i d a b = refl
as-lanes Op.UQADD v i d a b = refl
as-lanes Op.SQSUB v i d a b = refl
as-lanes Op.UQSUB v i d a b = refl
as-lanes Op.SHADD v i d a b = refl
as-lanes Op.UHADD v i d a b = refl
as-lanes Op.SRHADD v i d a b = refl
as-lanes Op.URHADD v i d a b = refl
as-lanes Op.SQXTN v i d a b = keeps v (full v) _ d
as-lanes Op.UQXTN v i d a b = keeps v (full v) _ d
as-lanes Op.SQXTUN v i d a b = keeps v (full v) _ d
as-lanes Op.SHRN v i d a b = keeps v (full v) _ d
as-lanes Op.RSHRN v i d a b = keeps v (full v) _ d
as-lanes Op.SQSHRN v i d a b = keeps v (full v) _ d
as-lanes Op.SQRSHRN v i d a b = keeps v (full v) _ d
as-lanes Op.UQSHRN v i d a b = keeps v (full v) _ d
as-lanes Op.UQRSHRN v i d a b = keeps v (full v) _ d
as-lanes Op.SQSHRUN v i d a b = keeps v (full v) _ d
as-lanes Op.SQRSHRUN v i d a b = keeps v (full v) _ d
as-lanes Op.SQABS v i d a b = refl
as-lanes Op.SQNEG v i d a b = refl
as-lanes Op.SQDMULH v i d a b = refl
as-lanes Op.SQRDMULH v i d a b = refl
as-lanes Op.SQDMULL v i d a b = refl
as-lanes Op.SQDMLAL v i d a b = refl
as-lanes Op.SQDMLSL v i d a b = refl
as-lanes Op.SQDMULL2 v i d a b = refl
as-lanes Op.SQDMLAL2 v i d a b = refl
as-lanes Op.SQDMLSL2 v i d a b = refl
as-lanes Op.SQDMULLE v i d a b = refl
as-lanes Op.SQDMLALE v i d a b = refl
as-lanes Op.SQDMLSLE v i d a b = refl
as-lanes Op.SQDMULL2E v i d a b = refl
as-lanes Op.SQDMLAL2E v i d a b = refl
as-lanes Op.SQDMLSL2E v i d a b = refl
as-lanes Op.SUQADD v i d a b = refl
as-lanes Op.USQADD v i d a b = refl
as-lanes Op.SABD v i d a b = refl
as-lanes Op.UABD v i d a b = refl
as-lanes Op.SABA v i d a b = refl
as-lanes Op.UABA v i d a b = refl
as-lanes Op.CNT v i d a b = refl
as-lanes Op.CLZ v i d a b = refl
as-lanes Op.CLS v i d a b = refl
as-lanes Op.RBIT v i d a b = refl
as-lanes Op.ADDHN v i d a b = keeps v (full v) _ d
as-lanes Op.RADDHN v i d a b = keeps v (full v) _ d
as-lanes Op.SUBHN v i d a b = keeps v (full v) _ d
as-lanes Op.RSUBHN v i d a b = keeps v (full v) _ d

-- a lane of a source has its number
pub has-lane : (r : ℕ → ℕ) (e : Expr) (m j : ℕ) → 0 < m → Has r (extract_lane e m j) m (lane m j (value r e))
has-lane r e m j h = has-number r (lane-lt m j (value r e)) (is-lane r e m j h)

module _ (r : ℕ → ℕ) (o : Op) (v : Arrangement) (i : ℕ) (d a b : Expr) (l : least o ≤ i) (h : i ≤ most o (bits_of_lane v)) where
  abbrev arm-at : ℕ → ℕ
  arm-at j = arm_at o v i (value r d) (value r a) (value r b) j

  part : (j : ℕ) → Has r (tree_at o v i d a b j) (bits_of_lane v) (arm-at j)
  unfolding arm_at
  part j =
      let hm = source-some (form o).lanes (bits_of_lane v) (sized v).eight in
      let hn : 0 < bits_of_lane v = omega (arith, (sized v).eight) in
      lane-is r (bits_of_lane v) i _ _ _ _ _ _ (sized v).eight (sized v).even (lane-lt (bits_of_lane v) j (value r d)) (has-lane r d (bits_of_lane v) j hn) o l h
      (sources r hm (lane-lt _ (first_lane (form o).lanes (lane_count o v) j) (value r a))
      (lane-lt _ (second_lane (form o).lanes (by_element o) (lane_count o v) i j) (value r b)) (has-lane r a _ (first_lane (form o).lanes (lane_count o v) j) hm)
      (has-lane r b _ (second_lane (form o).lanes (by_element o) (lane_count o v) i j) hm)) (full v)

  lanes-is : Has r (concat_lanes (lane_count o v - 1) (tree_at o v i d a b)) (made_bits (form o).lanes (full v)) (lanes (bits_of_lane v) (lane_count o v) arm-at)
  lanes-is =
      let f = filled (form o).lanes v in
      record {
        wide = concat-width r (bits_of_lane v) (lane_count o v - 1) (tree_at o v i d a b) (λ j. (part j).wide) ∙ rw f.some f.fill;
        val = concat-value r (bits_of_lane v) (lane_count o v - 1) (tree_at o v i d a b) (λ j. (part j).wide)
            ∙ lanes-eq (bits_of_lane v) (suc (lane_count o v - 1)) (λ j. value r (tree_at o v i d a b j)) arm-at (λ j k. (part j).val)
            ∙ ap (λ (k : ℕ). lanes (bits_of_lane v) k arm-at) f.some;
      }

  placed : (f : Lanes) (t : Bool) (new : Expr) (k : ℕ) → Has r new (made_bits f t) k → Has r (place_tree f t new d) (bits_if t) (place_bits f t k (value r d))
  unfolding value width
  placed Same t new k p = p
  placed (Long u) t new k p = p
  placed Narrow false new k p = p
  placed Narrow true new k p = record { wide = rw (p.wide, cut-width d 63 0); val = rw (p.val, cut-width d 63 0, cut-value r d 63 0 (omega arith), div-one (value r d)) }

  -- the value of the term is the Arm result
  pub result-is : Has r (result_tree o v i d a b) (view v) (arm_result o v i (value r d) (value r a) (value r b))
  unfolding arm_result
  result-is =
      rw (as-lanes o v i d a b)
      (placed (form o).lanes (full v) (concat_lanes (lane_count o v - 1) (tree_at o v i d a b)) (lanes (bits_of_lane v) (lane_count o v) arm-at) lanes-is)
