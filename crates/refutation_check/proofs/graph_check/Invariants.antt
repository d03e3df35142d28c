-- graph_check: the gates before n come after their operands
use Rattle.std.proofs.Common.{◌≡◌, true}
use Rattle.gates.specs.Graph.{gates_ok}
use Rattle.refutation_check.proofs.graph_check.Given as goal

abbrev pub invariant-loop-n : goal.invariant-loop-n
invariant-loop-n l = gates_ok l.graph l.n ≡ true
