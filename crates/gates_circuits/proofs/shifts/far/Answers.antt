-- `far`: whether the bits are 0, and the choice by it.
use Rattle.std.proofs.Common.{arith}
use Rattle.gates_circuits.proofs.Laws.{word-reads, word-from}
use Rattle.gates_circuits.proofs.Shifting.{amount-word, zeros-word, value-still, filled-word, far-made}
use Rattle.gates_circuits.proofs.shifts.far.Goals as goal

pub equal-same-requires : goal.equal-same-requires
equal-same-requires c =
    let p = c.requires.room in
    let q = c.requires.under in
    let e = c.fill.ensures in
    let g = c.args.graph.now in
    let b = c.args.b in (
      omega arith,
      word-reads (amount-word {g = g} b p.1 p.2 p.3 q.0 q.1 q.2 e),
      word-reads (zeros-word {g = g} b p.1 p.2 p.3 q.0 q.1 q.2 e),
    )

pub fill-requires-2 : goal.fill-requires-2
fill-requires-2 c = omega (arith, c.fill.ensures.size)

pub mux-requires : goal.mux-requires
mux-requires c =
    let p = c.requires.room in
    let q = c.requires.under in
    let e = c.fill.ensures in
    let d = c.equal-same.ensures in
    let f = c.fill-2.ensures in
    let b = c.args.b in (
      omega arith,
      omega (arith, e.size, f.size),
      word-from (value-still b p.1 p.2 p.3 q.0 q.1 q.2 e d f) (omega arith),
      word-from (filled-word b p.1 p.2 p.3 q.0 q.1 q.2 e d f) (omega arith),
      d.under,
    )

pub returns : goal.returns
returns c =
    let p = c.requires.room in
    let q = c.requires.under in
    far-made c.args.b p.1 p.2 p.3 q.0 q.1 q.2 c.fill.ensures c.equal-same.ensures c.fill-2.ensures c.mux.ensures
