-- Lane by lane: an Arm lane is below 2^n, so lane j of a result's value is the Arm value of that lane. Assumes nothing.
use mathlib.Core.Path.{◌≡◌, refl, sym, ap, ◌∙◌, subst}
use mathlib.Core.Bool.{Bool, true, false, ◌&&◌}
use Prim.Native.Nat.{ℕ, ◌+◌, ◌*◌, ◌/◌, ◌%◌, ◌^◌, ◌≤◌, ◌<◌}
use native.Mathlib.Omega.{arith}
use native.Mathlib.Nat.{mod-lt}
use lib.Arith.{digits_div, digits_mod}
use lib.Pow.{pow_pos, shr-shr}
use Rattle.terms.specs.Expr.{Expr, Const, width}
use Rattle.terms.specs.Value.{value}
use Rattle.neon.specs.Op.{Op, Arrangement, bits_of_lane, full}
use Rattle.neon.specs.Form.{Lanes, Same, Narrow, Long, form, is_narrow, least, most, source_bits, made_bits, lane_count}
use Rattle.neon.specs.Arm.{lane, lanes, arm_lane, arm_at, place_bits, place_lane, arm_result}
use Rattle.neon.proofs.Geometry.{sized, source-some, by-half}
use Rattle.neon.proofs.Lanes.{lane-of-lanes}
use Rattle.trees.specs.Neon.{neon_op}
use Rattle.trees.specs.Trees.{result_tree}
use Rattle.trees_value.proofs.Is.{Has}
use Rattle.trees_value.proofs.Lanes.{lane-lt}
use Rattle.trees_value.proofs.Lane.{lane_tree, lane-is, sources}
use Rattle.trees_value.proofs.Whole.{result-is}
use Rattle.trees_value.proofs.Fit.{fit-const}
use Rattle.trees_value.proofs.FitForm.{fit_lane}
use Rattle.trees_value.proofs.Range.{value-lt}

abbrev zeros : ℕ → ℕ
zeros x = 0

source-most : (l : Lanes) (n : ℕ) → n ≤ 64 → source_bits l n ≤ 129
source-most Same n h = omega arith
source-most Narrow n h = omega arith
source-most (Long u) n h = omega arith

has-const : (k w : ℕ) → Has zeros (Const k w) w k
unfolding value width
has-const k w = record { wide = refl; val = refl }

-- the tree of the lane, over constants, has the Arm value and fits
pub arm-lane-lt : (o : Op) (n i w x y : ℕ) → 8 ≤ n → n ≤ 64 → n / 2 * 2 ≡ n → least o ≤ i → i ≤ most o n → w < 2 ^ n
    → x < 2 ^ source_bits (form o).lanes n
    → y < 2 ^ source_bits (form o).lanes n
    → arm_lane o n i w x y < 2 ^ n
arm-lane-lt o n i w x y h8 h64 e l h hw hx hy =
    let m = source_bits (form o).lanes n in
    let hm = source-some (form o).lanes n h8 in
    let hn : 0 < n = omega arith in
    let m129 = source-most (form o).lanes n h64 in
    let t = lane_tree (neon_op o i false) n (Const w n) (Const x m) (Const y m) in
    let p =
    lane-is zeros n i (Const w n) (Const x m) (Const y m) w x y h8 e hw (has-const w n) o l h (sources zeros hm hx hy (has-const x m) (has-const y m)) false
    in
    let f =
    fit_lane o n i (Const w n) (Const x m) (Const y m) h8 h64 l h
    (fit-const w n hn (omega arith) hw) (fit-const x m hm m129 hx) (fit-const y m hm m129 hy) false
    in
    subst (λ (k : ℕ). k < 2 ^ n) p.val
    (subst (λ (b : ℕ). value zeros t < 2 ^ b) f.wide (value-lt zeros (λ x h. pow_pos 128) t f.ok (rw f.wide f.some)))

above_half : (n k j new low : ℕ) → n * k ≡ 64 → low < 2 ^ 64 → lane n (k + j) (new * 2 ^ 64 + low) ≡ lane n j new
unfolding lane
above_half n k j new low e h =
    ap (λ (b : ℕ). (new * 2 ^ 64 + low) / 2 ^ b % 2 ^ n) {x = n * (k + j)} {y = 64 + n * j} (omega (arith, e))
    ∙ ap (λ (x : ℕ). x % 2 ^ n) (sym (shr-shr (new * 2 ^ 64 + low) 64 (n * j)) ∙ ap (λ (x : ℕ). x / 2 ^ (n * j)) (digits_div new h))

placed-lane : (l : Lanes) (v : Arrangement) (t : Bool) (new d j : ℕ)
    → lane (bits_of_lane v) (place_lane l t (made_bits l (full v) / bits_of_lane v) j) (place_bits l t new d) ≡ lane (bits_of_lane v) j new
placed-lane Same v t new d j = refl
placed-lane (Long u) v t new d j = refl
placed-lane Narrow v false new d j = refl
placed-lane Narrow v true new d j = above_half (bits_of_lane v) (64 / bits_of_lane v) j new (d % 2 ^ 64) (by-half v).fill (mod-lt d (pow_pos 64))

module _ (o : Op) (v : Arrangement) (i : ℕ) (l : least o ≤ i) (h : i ≤ most o (bits_of_lane v)) where
  pub arm-at-lt : (d a b j : ℕ) → arm_at o v i d a b j < 2 ^ bits_of_lane v
  unfolding arm_at
  arm-at-lt d a b j =
      arm-lane-lt o (bits_of_lane v) i _ _ _ (sized v).eight (sized v).most (sized v).even l h (lane-lt _ _ d) (lane-lt _ _ a) (lane-lt _ _ b)

  -- lane j of the term's value is the Arm value of lane j
  pub result-lane : (r : ℕ → ℕ) (d a b : Expr) (j : ℕ) → j < lane_count o v
      → lane (bits_of_lane v) (place_lane (form o).lanes (full v) (lane_count o v) j) (value r (result_tree o v i d a b))
      ≡ arm_at o v i (value r d) (value r a) (value r b) j
  unfolding arm_result
  result-lane r d a b j k =
      ap (lane (bits_of_lane v) (place_lane (form o).lanes (full v) (lane_count o v) j)) (result-is r o v i d a b l h).val
      ∙ placed-lane (form o).lanes v (full v) _ (value r d) j
      ∙ lane-of-lanes (bits_of_lane v) (lane_count o v) (arm_at o v i (value r d) (value r a) (value r b)) (arm-at-lt (value r d) (value r a) (value r b)) j k

  -- and a narrowing 2 form keeps the low half of d below them
  pub result-kept : (r : ℕ → ℕ) (d a b : Expr) → (is_narrow (form o).lanes && full v) ≡ true → value r (result_tree o v i d a b) % 2 ^ 64 ≡ value r d % 2 ^ 64
  unfolding arm_result
  result-kept r d a b e =
      ap (λ (x : ℕ). x % 2 ^ 64) (result-is r o v i d a b l h).val
      ∙ rw e (digits_mod (lanes (bits_of_lane v) (lane_count o v) (arm_at o v i (value r d) (value r a) (value r b))) (mod-lt (value r d) (pow_pos 64)))
