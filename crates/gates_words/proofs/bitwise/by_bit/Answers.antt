-- `by_bit` makes the gate of each two bits: its loop keeps the bits so far.
use Rattle.std.proofs.Common.{arith}
use Rattle.gates_words.specs.Bitwise.{gate_of, bits_of}
use Rattle.gates_words.proofs.Loops.{writes-none, writes_more, place-low, place-truth}
use Rattle.gates_words.proofs.Gates.{gate-step, zero_bits}
use Rattle.gates_words.proofs.bitwise.by_bit.Goals as goal

pub loop-i-init : goal.loop-i-init
loop-i-init c = writes-none (λ start. bits_of c.args.kind) _ _ _ c.args.out c.args.a c.args.b (λ start. zero_bits c.args.kind)

pub gate_at-all-requires-clause-under : goal.gate_at-all-requires-clause-under
gate_at-all-requires-clause-under c =
    let r = c.loop-i.invariant.run in
    let t = c.loop-i-test.true in
    (place-low r c.requires.2 t, place-low r c.requires.3 t)

pub loop-i-preserved : goal.loop-i-preserved
loop-i-preserved c =
    let k = c.args.kind in
    let r = c.loop-i.invariant.run in
    let t = c.loop-i-test.true in
    writes_more (λ start. gate_of k) (λ start. bits_of k) (gate-step k) c.args.a c.args.b c.loop-i.invariant (omega arith) c.gate_at-all.ensures
    (λ start i. gate_of k (place-truth r start c.requires.2 t i) (place-truth r start c.requires.3 t i))
    (omega arith)
