-- width_over is width_over
use borrow.Author.Tests.{eq-eqb, ne_eqb, lt-ltb, le-ltb}
use borrow.Author.Rules.{rules}
use Rattle.pool_rules.proofs.width_over.Statement.{statement}
use Rattle.pool_rules.proofs.width_over.Tie as tie

add-result : tie.Need-overflow_add-result
add-result c = search rules

returns : tie.Need-returns-then-kind-eq-CONCAT
returns c = rw (eq-eqb c.args.kind 17 c.if-kind-eq-CONCAT.true)

returns-2 : tie.Need-returns-then-kind-lt-EQ
returns-2 c =
    let e = c in rw (ne_eqb e.args.kind 17 e.if-kind-eq-CONCAT.false, lt-ltb e.args.kind 12 c.if-kind-lt-EQ.true)

returns-3 : tie.Need-returns
returns-3 c =
    let e = c in rw (ne_eqb e.args.kind 17 e.if-kind-eq-CONCAT.false, le-ltb e.args.kind 12 c.if-kind-lt-EQ.false)

pub width_over_spec : {M : Type 1} → statement M
width_over_spec = tie.close (tie.spec add-result returns returns-2 returns-3)
