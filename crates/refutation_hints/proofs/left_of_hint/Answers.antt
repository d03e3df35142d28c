use Rattle.std.proofs.Common.{◌≡◌, ◌/◌, refl, sym, ◌∙◌, arith}
use borrow.Author.Tests.{ne_eqb}
use Rattle.refutation_hints.specs.Memory.{marked}
use Rattle.refutation_hints.proofs.Steps.{cited-step, no_step, one_left, gate-at}
use Rattle.refutation_hints.proofs.left_of_hint.Goals as goal

pub returns-then-k-n : goal.returns-then-k-n
returns-then-k-n c =
    let a = c.args in
    sym (no_step a.words.now a.starts.now a.l a.graph.now a.count a.k (marked a.marks.now a.k) a.v c.if-part-eq3.true (omega (arith, c.if-k-n.true)))

pub returns-then-n-eq0 : goal.returns-then-n-eq0
returns-then-n-eq0 c =
    let a = c.args in
    let m = marked a.marks.now a.k in
    let e : a.v / 4 ≡ 0 = c.if-n-eq0.true in
    c.look.ensures
    ∙ sym (cited-step a.words.now a.starts.now a.l a.graph.now a.count a.k m a.v c.if-part-eq3.true (omega (arith, c.if-k-n.false)) ∙ rw e (one_left m a.l))

pub returns-then-part-eq3 : goal.returns-then-part-eq3
returns-then-part-eq3 c =
    let a = c.args in
    let m = marked a.marks.now a.k in
    c.left_of_list.ensures
    ∙ sym (cited-step a.words.now a.starts.now a.l a.graph.now a.count a.k m a.v c.if-part-eq3.true (omega (arith, c.if-k-n.false))
    ∙ rw (ne_eqb (a.v / 4) 0 c.if-n-eq0.false) refl)

pub left_of_gate-requires : goal.left_of_gate-requires
left_of_gate-requires c =
    let a = c.args in
    let q = gate-at a.graph.now a.count (a.v / 4) c.requires.good c.if-count-n.false in
    record { n_in_bounds = (q.0, omega (arith, c.requires.room, c.if-count-n.false)); n_bound = (q.1, q.2) }
