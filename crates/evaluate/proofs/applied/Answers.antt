-- `applied` gives `applied_at`: `apply` is asked with the widths of the operands that the kind has.
use mathlib.Core.Path.{sym, ◌∙◌}
use Rattle.text_parts.proofs.Operands.{to-nineteen, first-term, is-pair, pair-b}
use Rattle.evaluate.proofs.Values.{one-asks, one-gives, two-asks, two-gives}
use Rattle.evaluate.proofs.applied.Goals as goal

pub width_of-wa-requires : goal.width_of-wa-requires
width_of-wa-requires c =
    let r = c.requires.ready in
    rw c.first.ensures (first-term _ _ r.0 _ r.1 r.2 r.3).ready.inside

pub apply-requires : goal.apply-requires
apply-requires c =
    let r = c.requires.ready in
    let wa = rw c.first.ensures at c.width_of-wa.ensures.0 in
    let one = sym c.is_single.ensures ∙ c.if-is_single.true in (
      one-asks c.args.p.now c.args.n.0 _ r.1 wa c.width_of-w.ensures.0 c.low-x.ensures c.high-y.ensures _ _ one c.requires.operands_at,
      r.2,
      to-nineteen _ _ r.0 _ r.1,
      r.3,
    )

pub returns-then-is_single : goal.returns-then-is_single
returns-then-is_single c =
    let wa = rw c.first.ensures at c.width_of-wa.ensures.0 in
    let one = sym c.is_single.ensures ∙ c.if-is_single.true in
    c.apply.ensures ∙ one-gives c.args.p.now c.args.n.0 _ c.requires.ready.1 wa c.width_of-w.ensures.0 c.low-x.ensures c.high-y.ensures _ _ one

pub width_of-wb-requires : goal.width_of-wb-requires
width_of-wb-requires c =
    let r = c.requires.ready in
    rw c.second.ensures (pair-b _ _ r.0 _ r.1 (is-pair _ r.2 r.3 (sym c.is_single.ensures ∙ c.if-is_single.false))).ready.inside

pub apply-requires-2 : goal.apply-requires-2
apply-requires-2 c =
    let r = c.requires.ready in
    let wa = rw c.first.ensures at c.width_of-wa.ensures.0 in
    let wb = rw c.second.ensures at c.width_of-wb.ensures.0 in
    let two = sym c.is_single.ensures ∙ c.if-is_single.false in (
      two-asks c.args.p.now c.args.n.0 _ r.1 wa c.width_of-w.ensures.0 c.low-x.ensures c.high-y.ensures _ _ wb two c.requires.operands_at,
      r.2,
      to-nineteen _ _ r.0 _ r.1,
      r.3,
    )

pub returns : goal.returns
returns c =
    let wa = rw c.first.ensures at c.width_of-wa.ensures.0 in
    let wb = rw c.second.ensures at c.width_of-wb.ensures.0 in
    let two = sym c.is_single.ensures ∙ c.if-is_single.false in
    c.apply-2.ensures
    ∙ two-gives c.args.p.now c.args.n.0 _ c.requires.ready.1 wa c.width_of-w.ensures.0 c.low-x.ensures c.high-y.ensures _ _ wb two
