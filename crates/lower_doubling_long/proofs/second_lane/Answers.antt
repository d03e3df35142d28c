use mathlib.Core.Path.{refl}
use Rattle.lower_doubling_long.proofs.Multiplying.{element-one, element-lane}
use Rattle.lower_doubling_long.proofs.second_lane.Goals as goal

pub returns-in-One : goal.returns-in-One
returns-in-One c =
    element-one c.args.bits c.args.index.0 c.in-One.is (rw c.in-One.is at c.requires.second_bound.0) refl refl

pub returns-in-PerLane : goal.returns-in-PerLane
returns-in-PerLane c = element-lane c.in-PerLane.is c.extract_lane.ensures
