-- `shift_right_signed` is bvashr.
use Rattle.std.proofs.Common.{◌+◌, ◌-◌, get_or, arith}
use Rattle.std.proofs.lemmas.Bool.{false≢true}
use Rattle.gates.specs.Graph.{truth}
use Rattle.gates_words.specs.Number.{bit_at, number}
use Rattle.gates_words.proofs.Sums.{sum_lt, sum_top}
use Rattle.gates_circuits.proofs.Shifted.{makes-by, signed_is}
use Rattle.gates_circuits.proofs.shifts.shift_right_signed.Goals as goal

pub shift-requires-clause-room : goal.shift-requires-clause-room
shift-requires-clause-room c =
    let p = c.requires in
    (p.0, p.1, λ e. absurd (false≢true e), p.2, p.3.low_a (c.args.w - 1) (omega arith))

pub returns : goal.returns
returns c =
    let a = c.args in
    let g = a.graph.now in
    let bits = a.bits.now in
    makes-by
    (λ start.
    signed_is (truth start g (get_or bits (a.a + (a.w - 1)) 0)) a.w (number start g bits a.a a.w) (number start g bits a.b a.w)
    (sum_lt (bit_at start g bits a.a) a.w)
    (sum_top (bit_at start g bits a.a) a.w c.requires.4))
    c.shift.ensures
