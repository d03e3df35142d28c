-- `of_width` meets its contract: both its tests are those of `of_width`.
use borrow.Author.Tests.{lt-ltb, le-ltb}
use borrow.Author.Rules.{rules}
use Rattle.pool_check.proofs.of_width.Statement.{statement}
use Rattle.pool_check.proofs.of_width.Tie as tie

width-of-requires : tie.Need-width_of-requires
width-of-requires c κs = search rules

returns : tie.Need-returns-then-n-count
returns c =
    let below = c in
    let a = below.args in
    rw (lt-ltb a.n.0 a.count below.if-n-count.true, c.width_of.ensures.0)

returns-2 : tie.Need-returns
returns-2 c = let a = c.args in rw (le-ltb a.n.0 a.count c.if-n-count.false)

pub of_width_spec : {M : Type 1} → statement M
of_width_spec = tie.close (tie.spec width-of-requires returns returns-2)
