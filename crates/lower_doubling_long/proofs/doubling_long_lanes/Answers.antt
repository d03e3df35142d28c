use Rattle.lower_doubling_long.proofs.Multiplying.{by-element, by-lane}
use Rattle.lower_doubling_long.proofs.doubling_long_lanes.Goals as goal

pub returns-then-by_element : goal.returns-then-by_element
returns-then-by_element c =
    let a = c.args in
    by-element a.lane_bits a.lanes a.element.0 a.combine a.upper a.by_element c.requires.le_lane_bits.4 c.if-by_element.true c.extract_lane-one.ensures c.concat_each.ensures

pub returns : goal.returns
returns c =
    let a = c.args in
    by-lane a.lane_bits a.lanes a.element.0 a.combine a.upper a.by_element c.if-by_element.false c.concat_each-2.ensures
