-- first_refused meets its contract: a node that is refused decides, and each that is not adds to the nodes passed
use native.Mathlib.Omega.{arith}
use borrow.Author.Tests.{ne_eqb}
use mathlib.Core.Path.{sym, ◌∙◌}
use Rattle.facts.proofs.Tests.{and_both}
use Rattle.pool.specs.Rules.{ok_node}
use Rattle.pool_check.specs.Plain.{plain_at}
use Rattle.pool_check.proofs.Nodes.{one_more, none, plain-none, plain_more, some-refused}
use Rattle.pool_check.proofs.first_refused.Goals as goal

pub loop-n-init : goal.loop-n-init
loop-n-init c = (none c.args.pool.now, plain-none c.args.pool.now c.args.plain.0)

pub returns-then-not-node_ok : goal.returns-then-not-node_ok
returns-then-not-node_ok c =
    let a = c.args in
    rw (ne_eqb c.loop-n.n a.count (λ e. omega (arith, e)))
    (sym (some-refused a.pool.now a.plain.0 c.loop-n.n a.count (omega arith) (sym c.node_ok.ensures ∙ c.if-not-node_ok.true)))

pub loop-n-preserved : goal.loop-n-preserved
loop-n-preserved c =
    let a = c.args in
    let n = c.loop-n.n in
    let p = and_both (ok_node a.pool.now n) (plain_at a.pool.now a.plain.0 n) (sym c.node_ok.ensures ∙ c.if-not-node_ok.false) in
    (one_more a.pool.now n c.loop-n.invariant.0 p.0, plain_more a.pool.now a.plain.0 n c.loop-n.invariant.1 p.1)
