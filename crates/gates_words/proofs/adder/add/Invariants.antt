-- `add` keeps the low bits of the sum and the carry out of them.
use Rattle.gates_words.specs.Adds.{Adds}
use Rattle.gates_words.proofs.adder.add.Given as goal

abbrev pub invariant-loop-i : goal.invariant-loop-i
invariant-loop-i l = Adds l.fn.graph l.count l.fn.bits l.graph l.sum l.bits l.a l.b l.carry l.out l.i
