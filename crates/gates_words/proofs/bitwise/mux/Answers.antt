-- `mux` chooses each bit: its loop keeps the bits so far.
use Rattle.std.proofs.Common.{ℕ, Bool, arith}
use Rattle.gates.specs.Graph.{truth}
use Rattle.gates.proofs.Truth.{same_truth}
use Rattle.gates_build.specs.Adds.{choose}
use Rattle.gates_words.specs.Bitwise.{ite_of}
use Rattle.gates_words.proofs.Loops.{writes-none, writes_more, place-low, place-truth}
use Rattle.gates_words.proofs.Gates.{choose-step, zero-chosen}
use Rattle.gates_words.proofs.bitwise.mux.Goals as goal

pub loop-i-init : goal.loop-i-init
loop-i-init c =
    let cond : (ℕ → ℕ) → Bool = λ start. truth start c.args.graph.now c.args.c in
    writes-none (λ start. ite_of (cond start)) _ _ _ c.args.out c.args.a c.args.b (λ start. zero-chosen (cond start))

pub mux_at-all-requires-clause-under : goal.mux_at-all-requires-clause-under
mux_at-all-requires-clause-under c =
    let r = c.loop-i.invariant.run in
    let t = c.loop-i-test.true in
    (omega arith, place-low r c.requires.2 t, place-low r c.requires.3 t)

pub loop-i-preserved : goal.loop-i-preserved
loop-i-preserved c =
    let cond : (ℕ → ℕ) → Bool = λ start. truth start c.args.graph.now c.args.c in
    let r = c.loop-i.invariant.run in
    let t = c.loop-i-test.true in
    writes_more (λ start. choose (cond start)) (λ start. ite_of (cond start)) (choose-step cond) c.args.a c.args.b c.loop-i.invariant (omega arith)
    c.mux_at-all.ensures
    (λ start i.
    choose (same_truth start c.args.graph.now c.loop-i.graph c.args.count c.args.c r.grown.kept c.requires.4 i) (place-truth r start c.requires.2 t i)
    (place-truth r start c.requires.3 t i))
    (omega arith)
