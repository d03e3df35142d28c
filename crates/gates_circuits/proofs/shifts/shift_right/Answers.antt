-- `shift_right` is bvlshr.
use Rattle.gates.specs.Graph.{truth}
use Rattle.gates_words.specs.Number.{bit_at, number}
use Rattle.gates_words.proofs.Sums.{sum_lt}
use Rattle.gates.proofs.Truth.{false-truth}
use Rattle.gates_circuits.proofs.Shifted.{makes-by, right_is}
use Rattle.gates_circuits.proofs.shifts.shift_right.Goals as goal

pub returns : goal.returns
returns c =
    let a = c.args in
    let g = a.graph.now in
    let bits = a.bits.now in
    makes-by
    (λ start. right_is (truth start g 0) a.w (number start g bits a.a a.w) (number start g bits a.b a.w) (sum_lt (bit_at start g bits a.a) a.w)
    (false-truth start g))
    c.shift.ensures
