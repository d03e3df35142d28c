-- `shift`: the stages that matter, and what is left of the amount.
use Rattle.std.proofs.Common.{arith}
use Rattle.gates_circuits.proofs.Shifted.{copied, amount, amount-high, shift_made}
use Rattle.gates_circuits.proofs.shifts.shift.Goals as goal

pub stages-near-requires-clause-under : goal.stages-near-requires-clause-under
stages-near-requires-clause-under c =
    let p = c.requires.room in
    let t = c.requires.two in
    let e = c.copy.ensures in
    let g = c.args.graph.now in
    (p.4, (copied {g = g} p.1 t e).low, (amount {g = g} p.1 t e).low)

pub far-requires-clause-room : goal.far-requires-clause-room
far-requires-clause-room c =
    let goes = c.stages-near.ensures.makes.goes in
    (omega arith, omega (arith, c.copy.ensures.size, goes.size), omega arith, omega (arith, c.requires.two.second, c.stages-near.ensures.few))

pub far-requires-clause-under : goal.far-requires-clause-under
far-requires-clause-under c =
    let p = c.requires.room in
    let d = c.stages-near.ensures in
    (omega arith, d.makes.word.low, (amount-high p.1 c.requires.two c.copy.ensures c.args.left c.args.literal d).low)

pub returns : goal.returns
returns c =
    let p = c.requires.room in
    shift_made p.1 c.requires.two c.copy.ensures c.args.left c.args.literal c.stages-near.ensures p.4 p.2 c.far.ensures
