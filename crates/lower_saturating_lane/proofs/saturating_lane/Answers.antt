-- `saturating_lane` meets its contract: the exact value of the lane, narrowed.
use Rattle.lower_saturating_lane.proofs.Narrowing.{saturating}
use Rattle.lower_saturating_lane.proofs.saturating_lane.Goals as goal

pub returns : goal.returns
returns c =
    let a = c.args in
    saturating a.kind a.lane_bits a.signed_sources c.exact_bits-wide.ensures c.kind_to-to.ensures
    c.exact_lane-exact.ensures c.narrowed.ensures
