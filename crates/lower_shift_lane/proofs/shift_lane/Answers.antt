-- shift_lane builds `shifted_by` for each kind of shift
use native.Mathlib.Omega.{arith}
use Rattle.lower_shift_lane.proofs.Shifting.{lane-right}
use Rattle.lower_shift_lane.proofs.shift_lane.Goals as goal

pub returns-in-RightImmediate : goal.returns-in-RightImmediate
returns-in-RightImmediate c =
    lane-right c.args.signed c.in-RightImmediate.is (omega (arith, c.requires)) (rw c.in-RightImmediate.is at c.requires.value_lt_count.4).1 c.requires.value_lt_count.3 c.konst-by.ensures c.shift_right.ensures
