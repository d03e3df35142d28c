-- `or` is the inversion of the conjunction of the inversions.
use Rattle.gates_build.proofs.Runs.{or-made}
use Rattle.gates_build.proofs.or.Goals as goal

pub returns : goal.returns
returns c =
    or-made c.requires.1 c.requires.2 c.negate.ensures c.negate-2.ensures c.and-neither.ensures c.negate-3.ensures
