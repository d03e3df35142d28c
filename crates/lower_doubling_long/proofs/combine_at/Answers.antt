use mathlib.Core.Path.{refl}
use Rattle.lower_doubling_long.proofs.Multiplying.{combined-nothing, combined-with}
use Rattle.lower_doubling_long.proofs.combine_at.Goals as goal

pub returns-in-None : goal.returns-in-None
returns-in-None c = combined-nothing c.args.lane_bits c.args.lanes c.args.index.0 c.in-None.is c.requires.product_lt_count.0 refl refl

pub returns-in-Some : goal.returns-in-Some
returns-in-Some c =
    let w = c.requires.le_lane_bits in
    combined-with w.0 w.2 c.in-Some.is c.extract_lane-prior.ensures c.join-sum.ensures c.clamp.ensures
