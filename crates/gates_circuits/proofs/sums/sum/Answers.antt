-- `sum` is the adder, its carry left off.
use Rattle.std.proofs.Common.{arith}
use Rattle.gates_circuits.proofs.Laws.{first_of, second-of}
use Rattle.gates_circuits.proofs.Sum.{sum-made}
use Rattle.gates_circuits.proofs.sums.sum.Goals as goal

pub add-made-requires : goal.add-made-requires
add-made-requires c = let p = c.requires in (p.0, p.1, first_of p.1 p.2, second-of p.1 p.2, omega arith)

pub returns : goal.returns
returns c = sum-made c.requires.1 c.requires.2 c.add-made.ensures
