-- pool_check is pool_ok: below its count every node may be a Var
use native.Mathlib.Omega.{arith}
use mathlib.Core.Path.{◌∙◌}
use mathlib.Core.Bool.{and-true}
use Rattle.pool.specs.Rules.{pool_ok}
use Rattle.pool_check.proofs.Nodes.{plain-below}
use borrow.Author.Rules.{rules}
use Rattle.pool_check.proofs.pool_check.Statement.{statement}
use Rattle.pool_check.proofs.pool_check.Tie as tie

check-plain-requires : tie.Need-check_plain-requires
check-plain-requires c κs = search rules

returns : tie.Need-returns
returns c =
    let a = c.args in
    c.check_plain.ensures ∙ rw (plain-below a.pool.now a.count a.count (omega arith)) (and-true (pool_ok a.pool.now a.count))

pub pool_check_spec : {M : Type 1} → statement M
pool_check_spec = tie.close (tie.spec check-plain-requires returns)
