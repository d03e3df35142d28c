use Rattle.lower_absolute_difference.proofs.Differing.{difference-lane}
use Rattle.lower_absolute_difference.proofs.absolute_difference_lane.Goals as goal

pub returns : goal.returns
returns c =
    let w = c.requires.a_lt_count in
    difference-lane c.args.signed w.2 w.3 c.less_op-op.ensures c.compare-less.ensures c.bv-up.ensures c.bv-down.ensures c.ite.ensures
