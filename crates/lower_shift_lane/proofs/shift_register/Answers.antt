-- shift_register builds `shifted_by` of a register shift: both directions, and the test of the amount's sign
use native.Mathlib.Omega.{arith}
use Rattle.lower_shift_lane.proofs.Shifting.{registered}
use Rattle.lower_shift_lane.proofs.shift_register.Goals as goal

pub returns : goal.returns
returns c =
    registered c.args.rounding c.args.saturate c.args.signed (omega (arith, c.requires)) c.requires.value_lt_count.3
    c.left_by-left.ensures c.konst-zero.ensures c.bv-negated.ensures c.shift_right-right.ensures c.compare-negative.ensures c.ite.ensures
