-- exact_shift_left builds `left_immediate` of SQSHLU: the exact product at its width, clamped
use Rattle.lower_exact.proofs.Exactly.{then1}
use Rattle.lower_shift_lane.proofs.left.exact_shift_left.Goals as goal

pub returns : goal.returns
returns c =
    then1 c.shift_up-exact.ensures c.clamp.ensures
