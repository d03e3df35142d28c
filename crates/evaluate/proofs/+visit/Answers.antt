-- A visit leaves the node's value, and the allowance less the visits below the node. Assumes nothing.
use mathlib.Core.Path.{refl, sym, ◌∙◌}
use native.Mathlib.Omega.{arith}
use Rattle.text_parts.proofs.Operands.{is-single, is-pair, ite-b, ite-c, pair-b}
use Rattle.evaluate.proofs.Steps.{some, visits-leaf, spent, given, first-spent, after_one, after_two, second-spent, no_arm, yes_arm, first-operand}
use Rattle.evaluate.proofs.+visit.Goals as goal

pub returns-then-left-eq0 : goal.returns-then-left-eq0
returns-then-left-eq0 t c =
    spent c.args.p.now.now c.args.start.now c.args.n.0 _ (omega (arith, c.if-left-eq0.true, some c.args.p.now.now c.args.start.now c.args.n.0 c.requires.0 _ refl))

-- a leaf
pub returns-then-k-lt-ADD : goal.returns-then-k-lt-ADD
returns-then-k-lt-ADD t c =
    given c.args.p.now.now c.args.start.now c.args.n.0 _ c.combine.ensures
    (omega (arith, visits-leaf c.args.p.now.now c.args.start.now c.args.n.0 c.requires.0 _ refl (omega (arith, c.if-k-lt-ADD.true, c.kind_of-k.ensures))))

-- the first operand
pub visit-c-requires : goal.visit-c-requires
visit-c-requires t c =
    let d = first-operand c.args.p.now.now c.args.n.0 c.requires.0 _ c.kind_of-k.ensures c.if-k-lt-ADD.false in
    rw c.first.ensures (omega (arith, c.decreases, d.before), (d.ready, c.requires.1))

pub returns-then-c-eq0 : goal.returns-then-c-eq0
returns-then-c-eq0 t c =
    first-spent c.args.p.now.now c.args.start.now c.args.n.0 c.args.left c.requires.0 _ c.kind_of-k.ensures (omega (arith, c.if-left-eq0.false))
    c.if-k-lt-ADD.false (rw c.first.ensures at c.visit-c.ensures) c.if-c-eq0.true

-- an Ite
pub visit-requires : goal.visit-requires
visit-requires t c =
    let d = ite-c c.args.p.now.now c.args.n.0 c.requires.0 _ c.kind_of-k.ensures c.if-k-eq-ITE.true in
    rw c.third.ensures (omega (arith, c.decreases, d.before), (d.ready, c.requires.1))

pub returns-then-out-eq0 : goal.returns-then-out-eq0
returns-then-out-eq0 t c =
    no_arm c.args.p.now.now c.args.start.now c.args.n.0 c.args.left c.requires.0 _ c.kind_of-k.ensures (omega (arith, c.if-left-eq0.false))
    c.if-k-eq-ITE.true (rw c.first.ensures at c.visit-c.ensures) c.if-c-eq0.false
    c.if-out-eq0.true (rw c.third.ensures at c.visit.ensures)

pub visit-requires-then-k-eq-ITE : goal.visit-requires-then-k-eq-ITE
visit-requires-then-k-eq-ITE t c =
    let d = ite-b c.args.p.now.now c.args.n.0 c.requires.0 _ c.kind_of-k.ensures c.if-k-eq-ITE.true in
    rw c.second.ensures (omega (arith, c.decreases, d.before), (d.ready, c.requires.1))

pub returns-then-k-eq-ITE : goal.returns-then-k-eq-ITE
returns-then-k-eq-ITE t c =
    yes_arm c.args.p.now.now c.args.start.now c.args.n.0 c.args.left c.requires.0 _ c.kind_of-k.ensures (omega (arith, c.if-left-eq0.false))
    c.if-k-eq-ITE.true (rw c.first.ensures at c.visit-c.ensures) c.if-c-eq0.false
    c.if-out-eq0.false (rw c.second.ensures at c.visit-then-k-eq-ITE.ensures)

-- one operand
pub returns-then-is_single : goal.returns-then-is_single
returns-then-is_single t c =
    after_one c.args.p.now.now c.args.start.now c.args.n.0 c.args.left c.requires.0 _ c.kind_of-k.ensures (omega (arith, c.if-left-eq0.false))
    (is-single _ (sym c.is_single.ensures ∙ c.if-is_single.true)) (rw c.first.ensures at c.visit-c.ensures) c.combine-then-is_single.ensures

-- two operands
pub visit-d-requires : goal.visit-d-requires
visit-d-requires t c =
    let d =
    pair-b c.args.p.now.now c.args.n.0 c.requires.0 _ c.kind_of-k.ensures
    (is-pair _ c.if-k-lt-ADD.false c.if-k-eq-ITE.false (sym c.is_single.ensures ∙ c.if-is_single.false)) in
    rw c.second-2.ensures (omega (arith, c.decreases, d.before), (d.ready, c.requires.1))

pub returns-then-d-eq0 : goal.returns-then-d-eq0
returns-then-d-eq0 t c =
    second-spent c.args.p.now.now c.args.start.now c.args.n.0 c.args.left c.requires.0 _ c.kind_of-k.ensures (omega (arith, c.if-left-eq0.false))
    (is-pair _ c.if-k-lt-ADD.false c.if-k-eq-ITE.false (sym c.is_single.ensures ∙ c.if-is_single.false)) (rw c.first.ensures at c.visit-c.ensures) c.if-c-eq0.false
    (rw c.second-2.ensures at c.visit-d.ensures) c.if-d-eq0.true

pub returns : goal.returns
returns t c =
    after_two c.args.p.now.now c.args.start.now c.args.n.0 c.args.left c.requires.0 _ c.kind_of-k.ensures (omega (arith, c.if-left-eq0.false))
    (is-pair _ c.if-k-lt-ADD.false c.if-k-eq-ITE.false (sym c.is_single.ensures ∙ c.if-is_single.false)) (rw c.first.ensures at c.visit-c.ensures) c.if-c-eq0.false
    (rw c.second-2.ensures at c.visit-d.ensures) c.combine-2.ensures
