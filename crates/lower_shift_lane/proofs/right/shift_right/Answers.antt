-- shift_right builds `shift_right`: the rounding sum of its own function, else one shift
use Rattle.lower_shift_lane.proofs.Shifting.{right-plain}
use Rattle.lower_shift_lane.proofs.right.shift_right.Goals as goal

pub returns : goal.returns
returns c =
    right-plain c.args.signed c.args.rounding c.args.max_shift c.requires.value_lt_count.2 c.requires.value_lt_count.3 c.if-rounding.false c.shift_op-op.ensures c.bv.ensures
