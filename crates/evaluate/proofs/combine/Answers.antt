-- `combine` leaves the node's value in a: that of a leaf, or `applied` to the values of its operands.
use mathlib.Core.Path.{◌≡◌, sym, ◌∙◌}
use Prim.Native.Nat.{◌≤◌}
use Rattle.pool.specs.Node.{kind_number}
use Rattle.evaluate.proofs.Values.{held-ok, held-is}
use Rattle.evaluate.proofs.combine.Goals as goal

pub applied-requires-clause-operands_at : goal.applied-requires-clause-operands_at
applied-requires-clause-operands_at c =
    let r = c.requires in
    let three : 3 ≤ kind_number c.args.p.now.now c.args.n.0 = rw (← c.kind_of-k.ensures) c.if-k-lt-ADD.false in
    let no-ite : c.kind_of-k.result ≡ 15 → ⊥ = λ q. r.ready.1 (sym c.kind_of-k.ensures ∙ q) in
    held-ok _ _ _ r.ready.0 _ c.kind_of-k.ensures r.ready.2 c.if-k-lt-ADD.false no-ite (c.load.ensures ∙ r.a_value three)
    (λ q. c.load-2.ensures ∙ r.b_value three (rw (← c.kind_of-k.ensures) q))

pub returns : goal.returns
returns c =
    let r = c.requires in
    let three : 3 ≤ kind_number c.args.p.now.now c.args.n.0 = rw (← c.kind_of-k.ensures) c.if-k-lt-ADD.false in
    let no-ite : c.kind_of-k.result ≡ 15 → ⊥ = λ q. r.ready.1 (sym c.kind_of-k.ensures ∙ q) in
    c.store-2.ensures ∙ c.applied.ensures
    ∙ held-is _ _ _ r.ready.0 _ c.kind_of-k.ensures r.ready.2 c.if-k-lt-ADD.false no-ite (c.load.ensures ∙ r.a_value three)
    (λ q. c.load-2.ensures ∙ r.b_value three (rw (← c.kind_of-k.ensures) q))
