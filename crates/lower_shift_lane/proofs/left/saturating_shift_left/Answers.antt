-- saturating_shift_left builds `saturating_shift_left`: the shift, the shift back, and the bound
use Rattle.lower_shift_lane.proofs.ShiftingLeft.{saturating}
use Rattle.lower_shift_lane.proofs.left.saturating_shift_left.Goals as goal

pub returns : goal.returns
returns c =
    saturating c.args.signed c.requires.value_lt_count.2 c.requires.value_lt_count.3 c.shift_op-op.ensures c.bv-shifted.ensures c.bv-restored.ensures
    c.compare-same.ensures c.shift_bound-bound.ensures c.ite.ensures
