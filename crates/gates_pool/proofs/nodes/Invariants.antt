-- `nodes` makes a node a turn.
use Rattle.gates_pool.specs.Gates.{Nodes}
use Rattle.gates_pool.proofs.nodes.Given as goal

abbrev pub invariant-loop-n : goal.invariant-loop-n
invariant-loop-n l = Nodes l.pool l.n l.fn.graph l.old l.fn.bits l.graph l.all l.bits
