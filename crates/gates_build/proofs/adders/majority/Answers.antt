-- `majority` is the carry of `full_add`.
use Rattle.gates_build.proofs.Runs.{majority-made}
use Rattle.gates_build.proofs.adders.majority.Goals as goal

pub returns : goal.returns
returns c =
    majority-made c.requires.1 c.requires.2 c.requires.3 c.half_add-first.ensures c.and-second.ensures c.or.ensures
