-- `move_right`: the high bits below, the literal above them.
use Rattle.gates_circuits.proofs.Moves.{right-made}
use Rattle.gates_circuits.proofs.shifts.move_right.Goals as goal

pub returns : goal.returns
returns c =
    right-made c.requires.0 c.requires.1 c.copy.ensures c.fill.ensures
