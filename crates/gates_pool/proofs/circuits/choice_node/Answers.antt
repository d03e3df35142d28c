-- `choice_node` chooses between the second and the third operand by the first one's literal.
use Rattle.std.proofs.Common.{arith}
use Rattle.gates_pool.proofs.Rules.{most, ite-facts}
use Rattle.gates_pool.proofs.Comparisons.{yes-read, no_read, condition-read, room-choice, chosen-read}
use Rattle.gates_pool.proofs.circuits.choice_node.Goals as goal

pub bounds-bits-condition : goal.bounds-bits-condition
bounds-bits-condition c =
    let ws = c.args.pool.now in
    let n = c.args.n.0 in
    let ready = c.requires.0 in
    let node = ready.placed.node in
    omega (arith, c.first-condition.ensures, (ite-facts ws n node c.requires.1).a, ready.placed.places)

pub mux-requires : goal.mux-requires
mux-requires c =
    let ws = c.args.pool.now in
    let n = c.args.n.0 in
    let ready = c.requires.0 in
    let node = ready.placed.node in
    let e = c.requires.1 in
    let i = c.first-condition.ensures in
    let a = c.second-a.ensures in
    let b = c.third-b.ensures in
    let width = c.width_of-w.ensures.0 in (
      room-choice ws n node ready e i a b width,
      omega (arith, width, most ws n node n (omega arith), ready.placed.places),
      yes-read ws n node ready e i a b width,
      no_read ws n node ready e i a b width,
      condition-read ws n node ready e i a b width,
    )

pub returns : goal.returns
returns c =
    let ws = c.args.pool.now in
    let n = c.args.n.0 in
    let ready = c.requires.0 in
    let node = ready.placed.node in
    let e = c.requires.1 in
    let i = c.first-condition.ensures in
    let a = c.second-a.ensures in
    let b = c.third-b.ensures in
    let width = c.width_of-w.ensures.0 in
    chosen-read ws n node ready e i a b width c.mux.ensures
