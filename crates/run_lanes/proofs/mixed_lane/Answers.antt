-- `mixed_lane` answers `mixed_lane_z` and `mixed_beyond`: the exact sum of a signed and an unsigned lane, clamped as d is read.
use native.Mathlib.Omega.{arith}
use Rattle.run_exact.proofs.Laws.{fitting}
use Rattle.run_lanes.proofs.mixed_lane.Goals as goal

pub returns-then-s : goal.returns-then-s
returns-then-s c =
    let second = c in
    rw second.if-s.true (c.limit.ensures _ (fitting (omega arith)
    (c.join.ensures 65 _ _ (omega arith) second.read.ensures second.read-then-s.ensures)))

pub returns : goal.returns
returns c =
    let second = c in
    rw second.if-s.false (c.limit-2.ensures _ (fitting (omega arith)
    (c.join-2.ensures 65 _ _ (omega arith) second.read-2.ensures second.read-3.ensures)))
