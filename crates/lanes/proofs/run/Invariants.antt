-- `lanes::run`: what is held of a line has room.
use Rattle.std.proofs.Common.{length, ◌≤◌}
use Rattle.lanes.proofs.run.Given as goal

abbrev pub invariant-loop : goal.invariant-loop
invariant-loop g l = l.line ≤ length l.held
