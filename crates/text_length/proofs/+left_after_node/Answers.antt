-- `left_after_node` meets its contract: the node number falls at every call, and the lengths of the parts are taken off in turn.
use Rattle.std.proofs.Common.{arith, sym, ◌∙◌, ◌≡◌, ◌-◌}
use borrow.Author.Tests.{eq-eqb, ne_eqb}
use Rattle.text_parts.proofs.Operands.{is-single, ite-a, single-a}
use Rattle.text_parts.proofs.Pieces.{left-term, right-term, a-joined}
use Rattle.text_length.proofs.Sizes.{before, left-after-one, left-after-two}
use Rattle.text_length.proofs.+left_after_node.Goals as goal
use Rattle.text_length.proofs.+left_after_node.Goals.{then-k-eq-ITE, else-k-eq-ITE}

-- ---- one operand

pub left_after_single-requires : goal.left_after_single-requires
left_after_single-requires t c = (c.requires, c.kind_of-k.ensures, sym c.is_single.ensures ∙ c.if-is_single.true)

pub left_after_node-requires : goal.left_after_node-requires
left_after_node-requires t c =
    let a = c.args in
    let d = single-a a.p.now.now a.n.0 c.requires _ c.kind_of-k.ensures (is-single _ (sym c.is_single.ensures ∙ c.if-is_single.true)) in
    rw c.first.ensures (omega (arith, d.before), d.ready)

pub returns-then-is_single : goal.returns-then-is_single
returns-then-is_single t c =
    let a = c.args in
    left-after-one a.p.now.now a.n.0 c.requires _ c.kind_of-k.ensures a.b (is-single _ (sym c.is_single.ensures ∙ c.if-is_single.true))
    c.left_after_single.ensures (rw c.first.ensures at c.left_after_node.ensures)

-- ---- two operands, or an Ite

pub own_length-requires : goal.own_length-requires
own_length-requires t c =
    a-joined c.args.p.now.now c.args.n.0 c.requires _ c.kind_of-k.ensures c.if-k-lt-ADD.false (sym c.is_single.ensures ∙ c.if-is_single.false)

pub left_after_node-c-requires : goal.left_after_node-c-requires
left_after_node-c-requires t c =
    let d = ite-a c.args.p.now.now c.args.n.0 c.requires _ c.kind_of-k.ensures c.if-k-eq-ITE.true in
    rw c.first-then-k-eq-ITE.ensures (omega (arith, d.before), d.ready)

pub left_after_node-d-requires : goal.left_after_node-d-requires
left_after_node-d-requires t c =
    let d = left-term c.args.p.now.now c.args.n.0 c.requires _ c.kind_of-k.ensures c.if-k-lt-ADD.false in
    rw c.left.ensures (omega (arith, d.before), d.ready)

pub left_after_node-requires-2 : goal.left_after_node-requires-2
left_after_node-requires-2 t c =
    let two = sym c.is_single.ensures ∙ c.if-is_single.false in
    let d = right-term c.args.p.now.now c.args.n.0 c.requires _ c.kind_of-k.ensures c.if-k-lt-ADD.false two in
    rw c.right.ensures (omega (arith, d.before), d.ready)

pub returns : goal.returns
returns t c =
    let a = c.args in
    let condition : c.if-k-eq-ITE.c ≡ c.saturating_sub-c.result - before a.p.now.now a.n.0 c.requires c.kind_of-k.result c.kind_of-k.ensures =
    elim c.if-k-eq-ITE.branch [
      | then-k-eq-ITE w ↦ rw (eq-eqb _ 15 w.if-k-eq-ITE.true) (w.c-is ∙ (rw w.first-then-k-eq-ITE.ensures at w.left_after_node-c.ensures))
      | else-k-eq-ITE w ↦ rw (ne_eqb _ 15 w.if-k-eq-ITE.false) (omega (arith, w.c-is))
    ] in
    left-after-two a.p.now.now a.n.0 c.requires _ c.kind_of-k.ensures a.b c.if-k-lt-ADD.false (sym c.is_single.ensures ∙ c.if-is_single.false)
    (rw c.own_length.ensures at c.saturating_sub-c.ensures) condition (rw c.left.ensures at c.left_after_node-d.ensures)
    (rw c.right.ensures at c.left_after_node-2.ensures)
