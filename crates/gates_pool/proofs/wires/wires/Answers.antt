-- `wires`: what a turn reads is what stood there at first.
use Rattle.std.proofs.Common.{◌∙◌, arith}
use Rattle.gates_words.proofs.Loops.{puts-more}
use Rattle.gates_pool.specs.Bits.{wire_at}
use Rattle.gates_pool.proofs.Rules.{most}
use Rattle.gates_pool.proofs.Literals.{wire-kept}
use Rattle.gates_pool.proofs.wires.wires.Goals as goal

pub bounds-bits-at : goal.bounds-bits-at
bounds-bits-at c =
    let n = c.args.n.0 in
    let p = c.requires.0 in
    omega (arith, most c.args.pool.now n p.node n (omega arith), c.loop-j.invariant.size, p.places)

pub loop-j-preserved : goal.loop-j-preserved
loop-j-preserved c =
    let n = c.args.n.0 in
    let ws = c.args.pool.now in
    let p = c.requires.0 in
    let i = c.loop-j.invariant in
    puts-more (wire_at ws c.args.bits.now n) _ (omega (arith, most ws n p.node n (omega arith), i.size, p.places)) i
    (c.wire.ensures ∙ wire-kept ws n p.node c.args.bits.now c.loop-j.bits c.loop-j.j c.requires.1 (omega arith) i.before)
