-- Demand 2: what an accepted instruction means. Assumes nothing.
use Prim.Native.Nat.{ℕ, ◌%◌, ◌^◌, ◌<◌}
use mathlib.Core.Bool.{Bool, true, false}
use mathlib.Core.Path.{◌≡◌, sym, ap, ◌∙◌}
use mathlib.Core.List.{List}
use native.Mathlib.Omega.{arith}
use Rattle.terms.specs.Expr.{Expr, width}
use Rattle.terms.specs.Value.{value}
use Rattle.neon.specs.Op.{Op, op_at, Arrangement, arrangement_at, bits_of_lane, full, bits_if, view}
use Rattle.neon.specs.Form.{form, lane_count}
use Rattle.neon.specs.Arm.{lane, place_lane}
use Rattle.neon.specs.Refusal.{Formed}
use Rattle.neon.proofs.Legal.{formed}
use Rattle.pool.specs.Unfold.{unfold_at}
use Rattle.pool_check.proofs.Passed.{keeps}
use Rattle.pool_check.proofs.Sound.{sound}
use Rattle.trees_value.proofs.Whole.{result-is}
use Rattle.trees_value.proofs.Range.{value-lt}
use Rattle.trees_value.proofs.Lanewise.{result-lane, result-kept}
use Rattle.instruction.specs.Lowering.{Lowering, Answers}
use Rattle.instruction.specs.Demand.{TreeIs, ValueIs, LanesAre, LowerKept, ValueFits, MeansArm}
use Rattle.instruction_check.proofs.Refusing.{passes}

some_bits : (b : Bool) → 0 < bits_if b
some_bits true = omega arith
some_bits false = omega arith

module _ (old : List ℕ) (count : ℕ) (new : List ℕ) (r : Lowering) (operation arrangement i d n m : ℕ)
    (a : Answers old count new r operation arrangement i d n m) (done : r.number ≡ 0) where
  abbrev o : Op
  o = op_at operation

  abbrev v : Arrangement
  v = arrangement_at arrangement

  legal : Formed operation arrangement i
  legal = (formed operation arrangement i 0 (passes old count operation arrangement i d n m (sym a.number ∙ done)).form-ok).0

  pub tree_is : TreeIs old count new r operation arrangement i d n m
  tree_is = (a.done done).is.tree

  pub instruction-is : (start : ℕ → ℕ) → ValueIs old count new r operation arrangement i d n m start
  instruction-is start = ap (value start) tree_is ∙ (result-is start o v i (unfold_at old d) (unfold_at old n) (unfold_at old m) legal.low legal.high).val

  pub instruction-lane : (start : ℕ → ℕ) → LanesAre old count new r operation arrangement i d n m start
  instruction-lane start j k =
      ap (λ (t : Expr). lane (bits_of_lane v) (place_lane (form o).lanes (full v) (lane_count o v) j) (value start t)) tree_is
      ∙ result-lane o v i legal.low legal.high start (unfold_at old d) (unfold_at old n) (unfold_at old m) j k

  pub instruction-kept : (start : ℕ → ℕ) → LowerKept old count new r operation arrangement i d n m start
  instruction-kept start e =
      ap (λ (t : Expr). value start t % 2 ^ 64) tree_is
      ∙ result-kept o v i legal.low legal.high start (unfold_at old d) (unfold_at old n) (unfold_at old m) e

  pub answer_lt : (start : ℕ → ℕ) → ValueFits old count new r operation arrangement i d n m start
  answer_lt start bits =
      let l = a.done done in
      let s = sound new r.count (keeps new r.count l.checked) r.node l.is.under in
      let w : width (unfold_at new r.node) ≡ view v = s.wide ∙ l.is.wide in
      rw w at (value-lt start bits (unfold_at new r.node) s.ok (rw w (some_bits (full v))))

pub means-arm : MeansArm
means-arm old count new r operation arrangement i d n m a done = (
  tree_is old count new r operation arrangement i d n m a done,
  λ start. (
    instruction-is old count new r operation arrangement i d n m a done start,
    instruction-lane old count new r operation arrangement i d n m a done start,
    instruction-kept old count new r operation arrangement i d n m a done start,
    answer_lt old count new r operation arrangement i d n m a done start,
  ),
)
