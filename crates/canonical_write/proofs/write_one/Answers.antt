-- `write_one` writes the four words of node j of the canonical pool, and nothing else (`OneMore`).
use Rattle.std.proofs.Common.{ℕ, ◌*◌, ◌<◌, ◌+◌, ◌∙◌, ap, get_or, arith}
use Rattle.pool.specs.Node.{word_at}
use Rattle.pool_operands.proofs.Unused.{third-small}
use Rattle.canonical_write.specs.Canonise.{new_operands}
use Rattle.canonical_write.proofs.Words.{one_more, new-words}
use Rattle.canonical_write.proofs.write_one.Goals as goal

-- the node that is written is one of the term
pub new_operands-w1-requires : goal.new_operands-w1-requires
new_operands-w1-requires c =
    let v = c.requires.valid in
    let below : c.node_at-n.result.0 < c.args.root.0 + 1 =
    omega (arith, c.node_at-n.ensures.0, (c.requires.numbered.node c.args.j.0 c.requires.j_lt_k.0).0) in
    (omega arith, third-small c.args.pool.now (c.args.root.0 + 1) c.node_at-n.result.0 v.0 below (omega arith))

pub returns : goal.returns
returns c =
    let a = c.args in
    let ws = a.pool.now in
    let v = c.requires.valid in
    let N = c.requires.numbered in
    let l = c.requires.j_lt_k in
    let e = c.node_at-n.ensures.0 in
    let w = new-words ws a.class.now a.root.0 v.0 (λ i. omega (arith, c.type_inv.pool i)) c.requires.classes a.number.now a.order.now a.k N a.j.0 l.0 in
    one_more ws a.root.0 a.j.0 a.out.now c.push.new.pool _ _ _ _ (omega (arith, N.count, l.0)) (omega (arith, l.0)) c.push.ensures.words (
      c.kind_word_at.ensures ∙ ap (λ (m : ℕ). get_or ws (4 * m) 0) e ∙ w.0,
      c.new_operands-w1.ensures ∙ ap (new_operands ws a.class.now a.number.now) e ∙ w.1,
      c.low.ensures ∙ ap (λ (m : ℕ). word_at ws m 2) e ∙ w.2,
      c.high.ensures ∙ ap (λ (m : ℕ). word_at ws m 3) e ∙ w.3,
    )
