-- `halving_lane` answers `saturating_lane_z` of Halving: the exact sum over 2, floored or rounded.
use native.Mathlib.Omega.{arith}
use Rattle.run_exact.proofs.Laws.{fitting}
use Rattle.run_lanes.proofs.halving_lane.Goals as goal

pub returns : goal.returns
returns c =
    let at_join = c in
    let at_read = c in
    let at-read2 = c in
    c.limit.ensures _ (fitting (omega arith) (c.right.ensures 66 _ (omega arith)
    (at_join.join.ensures 65 _ _ (omega arith) at-read2.read.ensures at_read.read-2.ensures)))
