-- `and`: the conjunction of the literals that `reduced` gives.
use Rattle.gates_build.proofs.Reduce.{and_same}
use Rattle.gates_build.proofs.and.Goals as goal

pub returns : goal.returns
returns c = and_same c.reduced-first.ensures c.and_ordered.ensures
