-- `node` makes the literals of a node by its kind.
use Rattle.std.proofs.Common.{arith}
use Rattle.gates_pool.proofs.Steps.{wired}
use Rattle.gates_pool.proofs.node.Goals as goal

pub returns-then-kind-lt-ADD : goal.returns-then-kind-lt-ADD
returns-then-kind-lt-ADD c = wired c.requires (λ q. omega (arith, q, c.kind_of-kind.ensures)) c.wires.ensures

pub returns-then-kind-ge-EXTRACT : goal.returns-then-kind-ge-EXTRACT
returns-then-kind-ge-EXTRACT c = wired c.requires (λ q. omega (arith, c.kind_of-kind.ensures)) c.wires-then-kind-ge-EXTRACT.ensures
