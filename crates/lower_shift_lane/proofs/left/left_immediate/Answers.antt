-- left_immediate builds `left_immediate`: a plain shift, or one that clamps
use native.Mathlib.Omega.{arith}
use Rattle.lower_shift_lane.proofs.ShiftingLeft.{left-wrapping}
use Rattle.lower_shift_lane.proofs.left.left_immediate.Goals as goal

pub returns-in-None : goal.returns-in-None
returns-in-None c =
    left-wrapping c.args.signed c.in-None.is (omega (arith, c.requires)) c.requires.value_lt_count.1 c.requires.value_lt_count.2 c.konst-by.ensures c.bv.ensures
