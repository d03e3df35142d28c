-- `operator_node` makes the operator of the node's kind over its operands' literals.
use Rattle.std.proofs.Common.{◌≤◌, ◌<◌, arith}
use Rattle.pool.specs.Node.{kind_number}
use Rattle.gates_pool.proofs.Rules.{most, bv-facts}
use Rattle.gates_pool.proofs.Operators.{operands-read, room-read, operated-read}
use Rattle.gates_pool.proofs.circuits.operator_node.Goals as goal

pub operate-requires-clause-room : goal.operate-requires-clause-room
operate-requires-clause-room c =
    let ws = c.args.pool.now in
    let n = c.args.n.0 in
    let ready = c.requires.0 in
    let node = ready.placed.node in
    let e = c.requires.1 in
    let f : 3 ≤ kind_number ws n = omega arith in
    let t : kind_number ws n < 12 = omega arith in
    let a = c.first-a.ensures in
    let b = c.second-b.ensures in
    let width = c.width_of-w.ensures.0 in
    let m = most ws n node n (omega arith) in (
      room-read ws n node ready f t e a b width,
      omega (arith, width, m, ready.placed.places),
      omega (arith, width, (bv-facts ws n node f t).some),
      omega (arith, width, m),
      operands-read ws n node ready f t e a b width,
    )

pub returns : goal.returns
returns c =
    let ws = c.args.pool.now in
    let n = c.args.n.0 in
    let ready = c.requires.0 in
    let node = ready.placed.node in
    let e = c.requires.1 in
    let f : 3 ≤ kind_number ws n = omega arith in
    let t : kind_number ws n < 12 = omega arith in
    let a = c.first-a.ensures in
    let b = c.second-b.ensures in
    let width = c.width_of-w.ensures.0 in
    operated-read ws n node ready f t e a b width c.operate.ensures
