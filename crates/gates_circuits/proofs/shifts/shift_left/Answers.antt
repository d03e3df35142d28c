-- `shift_left` is bvshl.
use Rattle.gates.specs.Graph.{truth}
use Rattle.gates_words.specs.Number.{number}
use Rattle.gates_circuits.proofs.Shifted.{makes-by, left_is}
use Rattle.gates_circuits.proofs.shifts.shift_left.Goals as goal

pub returns : goal.returns
returns c =
    let a = c.args in
    let g = a.graph.now in
    let bits = a.bits.now in
    makes-by (λ start. left_is (truth start g 0) a.w (number start g bits a.a a.w) (number start g bits a.b a.w)) c.shift.ensures
