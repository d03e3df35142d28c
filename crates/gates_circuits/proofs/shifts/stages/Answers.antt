-- `stages`: a stage a turn, by twice as many places.
use Rattle.std.proofs.Common.{refl, ◌*◌, mul-zero, arith}
use Rattle.gates_circuits.proofs.Shifting.{stages-none, stages-more, stages-done, few, few-stages, gates-more, gates-all, gates-stage, amount-low, places}
use Rattle.gates_circuits.proofs.shifts.stages.Goals as goal

pub loop-i-init : goal.loop-i-init
loop-i-init c =
    let a = c.args in
    stages-none a.graph.now a.count a.bits.now a.left a.literal a.b a.out a.w (3 * a.w * 0) (omega arith) c.requires.under.1 (mul-zero (3 * a.w))

pub overflow_add-c : goal.overflow_add-c
overflow_add-c c = omega (arith, few c.requires.reach)

pub offset_bounds-bits-b : goal.offset_bounds-bits-b
offset_bounds-bits-b c = omega (arith, few c.requires.reach, c.loop-i.invariant.goes.size)

pub bounds-bits-b : goal.bounds-bits-b
bounds-bits-b c = omega (arith, few c.requires.reach, c.loop-i.invariant.goes.size)

pub overflow_shl-i : goal.overflow_shl-i
overflow_shl-i c = omega (arith, few-stages c.requires.reach c.requires.room.3)

pub stage-all-requires-clause-room : goal.stage-all-requires-clause-room
stage-all-requires-clause-room c =
    let p = c.requires.room in
    let r = c.requires.reach in
    let t = c.loop-i-test.true in
    let goes = c.loop-i.invariant.goes in (
      omega (arith, gates-stage c.args.w c.loop-i.i (omega (arith, few-stages r p.3))),
      omega (arith, places r p.3 t, r.near c.loop-i.i t),
      omega (arith, goes.size),
      p.2,
    )

pub stage-all-requires-clause-under : goal.stage-all-requires-clause-under
stage-all-requires-clause-under c =
    let e = c.loop-i.invariant in
    let q = c.requires.under in
    (omega arith, amount-low c.args.b c.loop-i.i e.goes c.requires.room.4 q.2 (omega (arith, few c.requires.reach)), e.word.low)

pub loop-i-preserved : goal.loop-i-preserved
loop-i-preserved c =
    let a = c.args in
    let p = c.requires.room in
    let q = c.requires.under in
    let r = c.requires.reach in
    let t = c.loop-i-test.true in
    stages-more a.left a.literal a.b c.loop-i.invariant p.4 q.2 q.0 (omega (arith, few r)) (places r p.3 t) refl c.stage-all.ensures
    (gates-more a.w c.loop-i.i)

pub returns : goal.returns
returns c =
    let a = c.args in
    let r = c.requires.reach in
    stages-done a.left a.literal a.b c.loop-i.invariant (gates-all a.w c.loop-i.i (omega (arith, few-stages r c.requires.room.3))) r (omega arith)
