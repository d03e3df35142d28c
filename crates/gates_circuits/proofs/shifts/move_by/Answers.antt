-- `move_by`: up or down.
use Rattle.gates_circuits.proofs.Moves.{moves-as, moves-down}
use Rattle.gates_circuits.proofs.shifts.move_by.Goals as goal

pub returns-then-left : goal.returns-then-left
returns-then-left c =
    moves-as _ c.if-left.true (c.requires.2 c.if-left.true) c.move_left.ensures

pub returns : goal.returns
returns c =
    moves-down _ c.if-left.false c.move_right.ensures
