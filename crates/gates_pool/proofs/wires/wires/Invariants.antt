-- `wires` puts one literal per turn; what it reads comes before what it writes.
use Rattle.std.proofs.Common.{◌*◌}
use Rattle.gates_words.specs.Words.{Puts}
use Rattle.gates_pool.specs.Bits.{wire_at}
use Rattle.gates_pool.proofs.wires.wires.Given as goal

abbrev pub invariant-loop-j : goal.invariant-loop-j
invariant-loop-j l = Puts l.fn.bits l.bits (129 * l.n.0) l.j (wire_at l.pool l.fn.bits l.n.0)
