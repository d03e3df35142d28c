-- `next_open` gives `next_open`: the first of A, B and C that is there and has no number yet.
use Rattle.canonical_order.proofs.Lists.{open_made}
use Rattle.canonical_order.proofs.next_open.Goals as goal

pub returns : goal.returns
returns c =
    open_made _ _ _ _ c.kind_of-kind.result _ _ _ _ _ _ _ _ _ _ _ _ _ c.kind_of-kind.ensures c.has_a.ensures c.has_b.ensures
    c.has_c.ensures c.first.ensures c.second.ensures c.third.ensures c.node_at-3.ensures.0
    c.node_at-2.ensures.0 c.node_at.ensures.0 c.none.ensures c.pick-c.ensures c.pick-b.ensures c.pick.ensures
