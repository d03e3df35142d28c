use Rattle.lower_saturating.proofs.Joining.{with-lower, alone}
use Rattle.lower_saturating.proofs.saturating_lanes.Goals as goal

pub returns-then-upper : goal.returns-then-upper
returns-then-upper c =
    let a = c.args in
    with-lower a.kind a.signed_sources a.lane_bits a.lanes c.if-upper.true c.concat_each-new.ensures c.keep_lower.ensures

pub returns : goal.returns
returns c =
    let a = c.args in
    alone a.kind a.signed_sources a.lane_bits a.lanes c.if-upper.false c.concat_each-new.ensures
