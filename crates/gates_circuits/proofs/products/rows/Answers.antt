-- `rows`: a row a turn, for the next bit of b.
use Rattle.std.proofs.Common.{refl, ◌*◌, arith}
use Rattle.gates_circuits.proofs.Rows.{rows_none, rows_more, row-gates, rows-gates, first-still, bit-low}
use Rattle.gates_circuits.proofs.products.rows.Goals as goal

pub loop-j-init : goal.loop-j-init
loop-j-init c =
    let a = c.args in
    rows_none a.graph.now a.count a.bits.now a.a a.b a.out a.w (10 * a.w * 0) (omega arith) c.requires.2

pub bounds-bits-b : goal.bounds-bits-b
bounds-bits-b c = omega (arith, c.requires.3.second, c.loop-j.invariant.goes.size)

pub row-all-requires-clause-room : goal.row-all-requires-clause-room
row-all-requires-clause-room c =
    let goes = c.loop-j.invariant.goes in
    (omega (arith, rows-gates c.args.w c.loop-j.j c.loop-j-test.true), omega (arith, goes.size), omega arith, c.requires.3.first)

pub row-all-requires-clause-under : goal.row-all-requires-clause-under
row-all-requires-clause-under c =
    let a = c.args in
    let p = c.requires in
    let e = c.loop-j.invariant in
    let j = c.loop-j.j in
    (bit-low a.a a.b j p.1 p.3 e c.loop-j-test.true, e.word.low, (first-still a.a a.b j p.1 p.3 e).low)

pub loop-j-preserved : goal.loop-j-preserved
loop-j-preserved c =
    let a = c.args in
    let p = c.requires in
    let j = c.loop-j.j in
    rows_more a.a a.b j p.1 p.3 c.loop-j.invariant c.loop-j-test.true refl c.row-all.ensures (row-gates a.w j)
