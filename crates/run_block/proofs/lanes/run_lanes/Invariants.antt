use Rattle.run_block.specs.Lanes.{number, lane_by, beyond_by}
use Rattle.run_block.proofs.Running.{Kept}
use Rattle.run_block.proofs.lanes.run_lanes.Given as goal

-- the sum has the lanes so far, and the flag says whether one of them saturated
abbrev pub invariant-loop-j : goal.invariant-loop-j
invariant-loop-j l =
    Kept l.n l.j (lane_by l.op l.n l.m l.skip l.element l.index.0 (number l.d) (number l.a) (number l.b))
    (beyond_by l.op l.n l.m l.skip l.element l.index.0 (number l.d) (number l.a) (number l.b)) l.acc l.saturated
