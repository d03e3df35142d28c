-- saturated_left builds `left_immediate` of a shift that clamps, into each range
use native.Mathlib.Omega.{arith}
use Rattle.lower_shift_lane.proofs.ShiftingLeft.{left-clamped}
use Rattle.lower_shift_lane.proofs.left.saturated_left.Goals as goal

pub returns : goal.returns
returns c =
    left-clamped c.args.to c.args.signed c.in_default.not-SignedToUnsigned (omega (arith, c.requires)) c.requires.value_lt_count.1 c.requires.value_lt_count.2
    c.konst-by.ensures c.saturating_shift_left.ensures
