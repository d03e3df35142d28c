-- `full_add`: two half adders, of which at most one carries.
use Rattle.gates_build.proofs.Runs.{full-made}
use Rattle.gates_build.proofs.adders.full_add.Goals as goal

pub returns : goal.returns
returns c =
    full-made c.requires.1 c.requires.2 c.requires.3 c.half_add-first.ensures c.half_add-second.ensures c.or-carry.ensures
