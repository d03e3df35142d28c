-- Demand 2 of document 01, of what the lowering of an instruction answers with number 0: its term is the Rust's tree, with cuts of cuts
-- joined, over the terms of its sources, and at every start the term's value is, lane by lane, what the manual says of the sources' values.
use Rattle.std.specs.Prelude.{true, ◌&&◌, List, ◌≡◌, ℕ, ◌%◌, ◌^◌, ◌<◌}
use Rattle.terms.specs.Value.{value}
use Rattle.neon.specs.Op.{op_at, arrangement_at, bits_of_lane, full, view}
use Rattle.neon.specs.Form.{form, is_narrow, lane_count, has_second, reads_d}
use Rattle.neon.specs.Arm.{lane, place_lane, arm_at, arm_result}
use Rattle.trees.specs.Trees.{result_tree}
use Rattle.trees.specs.Joined.{all_joined, uncut}
use Rattle.pool.specs.Unfold.{unfold_at}
use Rattle.instruction.specs.Lowering.{Lowering, Answers}

module _ (old : List ℕ) (count : ℕ) (new : List ℕ) (r : Lowering) (operation arrangement i d n m : ℕ) where
  -- the tree; its text is `display` of it
  abbrev pub TreeIs : Type 0
  TreeIs = unfold_at new r.node ≡ result_tree (op_at operation) (arrangement_at arrangement) i (unfold_at old d) (unfold_at old n) (unfold_at old m)

  module _ (start : ℕ → ℕ) where
    -- the value of the answer's term, and of a source's
    abbrev pub answer_value : ℕ
    answer_value = value start (unfold_at new r.node)

    abbrev pub source_value : ℕ → ℕ
    source_value node = value start (unfold_at old node)

    -- the whole result
    abbrev pub ValueIs : Type 0
    ValueIs = answer_value ≡ arm_result (op_at operation) (arrangement_at arrangement) i (source_value d) (source_value n) (source_value m)

    -- each new lane
    abbrev pub LanesAre : Type 0
    LanesAre =
        let o = op_at operation in
        let v = arrangement_at arrangement in
        (j : ℕ) → j < lane_count o v
        → lane (bits_of_lane v) (place_lane (form o).lanes (full v) (lane_count o v) j) answer_value
        ≡ arm_at o v i (source_value d) (source_value n) (source_value m) j

    -- a narrowing "2" form keeps the low half of d below them
    abbrev pub LowerKept : Type 0
    LowerKept = (is_narrow (form (op_at operation)).lanes && full (arrangement_at arrangement)) ≡ true → answer_value % 2 ^ 64 ≡ source_value d % 2 ^ 64

    -- if the start's registers have 128 bits, the result has the view's bits and no more
    abbrev pub ValueFits : Type 0
    ValueFits = ((x : ℕ) → x < 32 → start x < 2 ^ 128) → answer_value < 2 ^ view (arrangement_at arrangement)

-- demand 2, whole
abbrev pub MeansArm : Type 0
MeansArm =
    (old : List ℕ) (count : ℕ) (new : List ℕ) (r : Lowering) (operation arrangement i d n m : ℕ)
    → Answers old count new r operation arrangement i d n m
    → r.number ≡ 0
    → TreeIs old count new r operation arrangement i d n m
    × ((start : ℕ → ℕ)
    → ValueIs old count new r operation arrangement i d n m start
    × LanesAre old count new r operation arrangement i d n m start
    × LowerKept old count new r operation arrangement i d n m start
    × ValueFits old count new r operation arrangement i d n m start)

-- S-8 of document 02: no cut of a cut is left in the answer's tree, if the sources that are wanted have none below their own outermost cuts
abbrev pub JoinsCuts : Type 0
JoinsCuts =
    (old : List ℕ) (count : ℕ) (new : List ℕ) (r : Lowering) (operation arrangement i d n m : ℕ)
    → Answers old count new r operation arrangement i d n m
    → r.number ≡ 0
    → (reads_d (op_at operation) (arrangement_at arrangement) ≡ true → all_joined (uncut (unfold_at old d)) ≡ true)
    → all_joined (uncut (unfold_at old n)) ≡ true
    → (has_second (op_at operation) ≡ true → all_joined (uncut (unfold_at old m)) ≡ true)
    → all_joined (unfold_at new r.node) ≡ true
