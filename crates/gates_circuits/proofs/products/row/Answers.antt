-- `row` masks the word by the literal and adds it.
use Rattle.std.proofs.Common.{arith}
use Rattle.gates_circuits.proofs.Laws.{word_below, word-from}
use Rattle.gates_circuits.proofs.Rows.{low_word, mask_word, masked-word, high_word, row_made}
use Rattle.gates_circuits.proofs.products.row.Goals as goal

pub by_bit-masked-requires : goal.by_bit-masked-requires
by_bit-masked-requires c =
    let p = c.requires.room in
    let q = c.requires.under in
    let e = c.fill.ensures in
    let g = c.args.graph.now in
    let a = c.args in (
      omega arith,
      omega (arith, e.size),
      word_below (low_word {g = g} a.a a.literal a.j p.1 p.2 p.3 q.0 q.1 q.2 e) (omega arith),
      word-from (mask_word {g = g} a.a a.literal a.j p.1 p.2 p.3 q.0 q.1 q.2 e) (omega arith),
    )

pub add-sum-requires : goal.add-sum-requires
add-sum-requires c =
    let p = c.requires.room in
    let q = c.requires.under in
    let e = c.fill.ensures in
    let d = c.by_bit-masked.ensures in
    let a = c.args in (
      omega arith,
      omega (arith, e.size, d.run.size),
      word-from (high_word a.a a.literal a.j p.1 p.2 p.3 q.0 q.1 q.2 e d) (omega arith),
      word-from (masked-word a.a a.literal a.j p.1 p.2 p.3 q.0 q.1 q.2 e d) (omega arith),
      omega arith,
    )

pub returns : goal.returns
returns c =
    let p = c.requires.room in
    let q = c.requires.under in
    let a = c.args in
    row_made a.a a.literal a.j p.1 p.2 p.3 q.0 q.1 q.2 c.fill.ensures c.by_bit-masked.ensures c.add-sum.ensures
