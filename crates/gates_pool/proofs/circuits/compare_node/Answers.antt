-- `compare_node` puts the comparison of the node's operands at the node's place.
use Rattle.std.proofs.Common.{◌≡◌, ◌≤◌, ◌<◌, arith}
use Rattle.pool.specs.Node.{kind_number, width_at}
use Rattle.pool_fields.specs.Fields.{op_a}
use Rattle.gates_pool.proofs.Rules.{compare-facts}
use Rattle.gates_pool.proofs.Comparisons.{first_read, second-read, room-flat, compared-read}
use Rattle.gates_pool.proofs.circuits.compare_node.Goals as goal

pub width_of-w-requires : goal.width_of-w-requires
width_of-w-requires c =
    let ws = c.args.pool.now in
    let n = c.args.n.0 in
    let ready = c.requires.0 in
    let node = ready.placed.node in
    let facts = compare-facts ws n node (omega arith) (omega arith) in
    omega (arith, c.first-a.ensures, facts.a, node.inside)

pub compare-made-requires-clause-room : goal.compare-made-requires-clause-room
compare-made-requires-clause-room c =
    let ws = c.args.pool.now in
    let n = c.args.n.0 in
    let ready = c.requires.0 in
    let node = ready.placed.node in
    let e = c.requires.1 in
    let f : 12 ≤ kind_number ws n = omega arith in
    let t : kind_number ws n < 15 = omega arith in
    let a = c.first-a.ensures in
    let b = c.second-b.ensures in
    let width : c.width_of-w.result ≡ width_at ws (op_a ws n) = rw a at c.width_of-w.ensures.0 in (
      room-flat ws n node ready f t e a b width,
      omega (arith, width, (compare-facts ws n node f t).some),
      first_read ws n node ready f t e a b width,
      second-read ws n node ready f t e a b width,
    )

pub returns : goal.returns
returns c =
    let ws = c.args.pool.now in
    let n = c.args.n.0 in
    let ready = c.requires.0 in
    let node = ready.placed.node in
    let e = c.requires.1 in
    let f : 12 ≤ kind_number ws n = omega arith in
    let t : kind_number ws n < 15 = omega arith in
    let a = c.first-a.ensures in
    let b = c.second-b.ensures in
    let width : c.width_of-w.result ≡ width_at ws (op_a ws n) = rw a at c.width_of-w.ensures.0 in
    compared-read ws n node ready f t e a b width c.compare-made.ensures
