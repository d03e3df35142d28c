use Rattle.std.proofs.Common.{length, drop, refl, ap, sym, ◌∙◌, Some, arith}
use borrow.Author.Tests.{eq-eqb, ne_eqb}
use Rattle.refutation.specs.Refutation.{step_ok, refused_step}
use Rattle.refutation_hints.specs.Memory.{after_step, clauses_to}
use Rattle.refutation_check.proofs.Parts.{some-there, none-there}
use Rattle.refutation_check.proofs.Going.{no-marks, going-first, going-refused, step-ends, place-left, going_done, going_on}
use Rattle.refutation_check.proofs.refused_step.Goals as goal

pub loop-next-init : goal.loop-next-init
loop-next-init c =
    let a = c.args in
    let p = c.requires in
    going-first a.graph.now a.count a.l a.words.now a.starts.now c.fill.new.self p.0 p.1 (c.fill.ensures.len ∙ p.2) p.3
    (no-marks (length a.marks.now) c.fill.new.self (c.fill.ensures.after (λ y e. e)))

pub step-requires : goal.step-requires
step-requires c = let g = c.loop-next.invariant in (g.ready, g.before)

pub returns-in_default : goal.returns-in_default
returns-in_default c =
    let a = c.args in
    let l = c.loop-next in
    let no = none-there (step_ok a.graph.now a.count (clauses_to a.words.now l.starts a.l l.k) (drop l.at a.words.now)) (after_step a.words.now l.at)
    c.in_default.ensures.0 in
    let e = going-refused l.invariant no in
    rw (ne_eqb (refused_step a.graph.now a.count a.l a.words.now) 0 (λ z. omega (arith, e, z, l.invariant.some))) (ap Some e)

pub returns-then-words-at-eq0 : goal.returns-then-words-at-eq0
returns-then-words-at-eq0 c =
    let a = c.args in
    let l = c.loop-next in
    let ok = some-there (step_ok a.graph.now a.count (clauses_to a.words.now l.starts a.l l.k) (drop l.at a.words.now)) (after_step a.words.now l.at)
    c.in-Some.next c.in-Some.ensures.0 in
    rw (eq-eqb (refused_step a.graph.now a.count a.l a.words.now) 0 (sym (going_done l.invariant ok.0 c.if-words-at-eq0.true))) refl

pub offset_bounds-starts-k : goal.offset_bounds-starts-k
offset_bounds-starts-k c =
    let a = c.args in
    let l = c.loop-next in
    let ok = some-there (step_ok a.graph.now a.count (clauses_to a.words.now l.starts a.l l.k) (drop l.at a.words.now)) (after_step a.words.now l.at)
    c.in-Some.next c.in-Some.ensures.0 in
    omega (arith, place-left l.invariant ok.0, l.auto.starts, c.well_formed)

pub bounds-starts-k : goal.bounds-starts-k
bounds-starts-k c =
    let a = c.args in
    let l = c.loop-next in
    let ok = some-there (step_ok a.graph.now a.count (clauses_to a.words.now l.starts a.l l.k) (drop l.at a.words.now)) (after_step a.words.now l.at)
    c.in-Some.next c.in-Some.ensures.0 in
    place-left l.invariant ok.0

pub overflow_add-k : goal.overflow_add-k
overflow_add-k c =
    let a = c.args in
    let l = c.loop-next in
    let ok = some-there (step_ok a.graph.now a.count (clauses_to a.words.now l.starts a.l l.k) (drop l.at a.words.now)) (after_step a.words.now l.at)
    c.in-Some.next c.in-Some.ensures.0 in
    omega (arith, place-left l.invariant ok.0, l.auto.starts, c.well_formed)

pub loop-next-smaller : goal.loop-next-smaller
loop-next-smaller c =
    let a = c.args in
    let l = c.loop-next in
    let ok = some-there (step_ok a.graph.now a.count (clauses_to a.words.now l.starts a.l l.k) (drop l.at a.words.now)) (after_step a.words.now l.at)
    c.in-Some.next c.in-Some.ensures.0 in
    omega (arith, ok.1, step-ends l.invariant ok.0)

pub loop-next-preserved : goal.loop-next-preserved
loop-next-preserved c =
    let a = c.args in
    let l = c.loop-next in
    let ok = some-there (step_ok a.graph.now a.count (clauses_to a.words.now l.starts a.l l.k) (drop l.at a.words.now)) (after_step a.words.now l.at)
    c.in-Some.next c.in-Some.ensures.0 in
    rw ok.1 (going_on l.invariant ok.0 c.step.new.marks c.if-words-at-eq0.false c.step.auto.marks c.step.ensures.1)
