-- `half_add`: the conjunction, and neither that nor the conjunction of the inversions.
use Rattle.gates_build.proofs.Runs.{half-made}
use Rattle.gates_build.proofs.adders.half_add.Goals as goal

pub returns : goal.returns
returns c =
    half-made c.requires.1 c.requires.2 c.and-both.ensures c.negate.ensures c.negate-2.ensures c.and-neither.ensures c.negate-3.ensures
    c.negate-4.ensures c.and-differ.ensures
