-- `add_sub_lane` answers `saturating_lane_z` and `saturating_beyond` of AddSub: the exact sum or difference, clamped.
use native.Mathlib.Omega.{arith}
use Rattle.run_exact.proofs.Laws.{fitting}
use Rattle.run_lanes.proofs.add_sub_lane.Goals as goal

pub returns : goal.returns
returns c =
    let at_read = c in
    let at-read2 = c in
    c.limit.ensures _ (fitting (omega arith) (c.join.ensures 65 _ _ (omega arith) at-read2.read.ensures at_read.read-2.ensures))
