use Rattle.lower.proofs.Lanes.{kept-below}
use Rattle.trees.specs.Width as Width
use Rattle.lower_high_narrow.proofs.high_narrow_lanes.Goals as goal

pub returns : goal.returns
unfolding Width.high_narrow_lanes
returns c = kept-below c.args.upper c.args.lane_bits c.args.lanes c.concat_each-new.ensures c.keep_lower.ensures
