-- `difference` adds the inverted word and 1.
use Rattle.std.proofs.Common.{arith}
use Rattle.gates_circuits.proofs.Laws.{word_below, word-from}
use Rattle.gates_circuits.proofs.Sum.{second_word, all_ones, still-first, inverted-word, difference-made}
use Rattle.gates_circuits.proofs.sums.difference.Goals as goal

pub by_bit-inverted-requires : goal.by_bit-inverted-requires
by_bit-inverted-requires c =
    let p = c.requires in
    let e = c.fill.ensures in
    let g = c.args.graph.now in (
      omega arith,
      omega (arith, e.size),
      word_below (second_word {g = g} p.1 p.2 e) p.2.second,
      word-from (all_ones {g = g} p.1 p.2 e) (omega arith),
    )

pub add-made-requires : goal.add-made-requires
add-made-requires c =
    let p = c.requires in
    let e = c.fill.ensures in
    let d = c.by_bit-inverted.ensures in (
      omega arith,
      omega (arith, e.size, d.run.size),
      word_below (still-first p.1 p.2 e d) p.2.first,
      word-from (inverted-word p.1 p.2 e d) (omega arith),
      omega arith,
    )

pub returns : goal.returns
returns c = difference-made c.requires.1 c.requires.2 c.fill.ensures c.by_bit-inverted.ensures c.add-made.ensures
