-- `multiply` adds the rows to 0.
use Rattle.std.proofs.Common.{arith}
use Rattle.gates_circuits.proofs.Rows.{nothing, two-there, product-made}
use Rattle.gates_circuits.proofs.products.multiply.Goals as goal

pub rows-requires : goal.rows-requires
rows-requires c =
    let p = c.requires in
    let e = c.fill.ensures in
    let g = c.args.graph.now in
    (p.0, omega (arith, e.size), (nothing g p.1 p.2 e).low, two-there g p.1 p.2 e)

pub returns : goal.returns
returns c = product-made c.args.graph.now c.requires.1 c.requires.2 c.fill.ensures c.rows.ensures
