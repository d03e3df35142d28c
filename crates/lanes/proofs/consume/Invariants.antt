-- `lanes::consume`: each turn takes some of the piece, and what is held of a line has room.
use Rattle.std.proofs.Common.{length, ◌-◌, ◌≤◌}
use Rattle.lanes.proofs.consume.Given as goal

abbrev pub invariant-loop-from : goal.invariant-loop-from
invariant-loop-from g l = l.len ≤ length l.held

abbrev pub decreases-loop-from : goal.decreases-loop-from
decreases-loop-from g l = length l.piece - l.from
