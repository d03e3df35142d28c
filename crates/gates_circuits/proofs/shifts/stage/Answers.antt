-- `stage` moves the word by copies and chooses.
use Rattle.std.proofs.Common.{arith}
use Rattle.gates_circuits.proofs.Laws.{word-from}
use Rattle.gates_circuits.proofs.Moves.{stays-word, moved_word, stage-made}
use Rattle.gates_circuits.proofs.shifts.stage.Goals as goal

pub mux-requires : goal.mux-requires
mux-requires c =
    let p = c.requires.room in
    let q = c.requires.under in
    let e = c.move_by.ensures in
    let g = c.args.graph.now in (
      p.0,
      omega (arith, e.keeps.size),
      word-from (moved_word {g = g} p.2 q.0 q.2 e) (omega arith),
      word-from (stays-word {g = g} p.2 q.0 q.2 e) (omega arith),
      q.1,
    )

pub returns : goal.returns
returns c =
    let q = c.requires.under in
    stage-made c.requires.room.2 q.0 q.2 c.move_by.ensures c.args.c c.mux.ensures
