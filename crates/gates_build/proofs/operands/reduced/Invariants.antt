-- `reduced`: each turn keeps the conjunction.
use Rattle.gates_build.specs.Reduce.{Same}
use Rattle.gates_build.proofs.operands.reduced.Given as goal

abbrev pub invariant-loop : goal.invariant-loop
invariant-loop l = Same l.graph l.count l.a l.b l.pair.0 l.pair.1
