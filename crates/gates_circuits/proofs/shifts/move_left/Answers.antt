-- `move_left`: zeros below, the low bits above them.
use Rattle.gates_circuits.proofs.Moves.{left-made}
use Rattle.gates_circuits.proofs.shifts.move_left.Goals as goal

pub returns : goal.returns
returns c =
    left-made c.requires.0 c.requires.1 c.fill.ensures c.copy.ensures
