-- check_plain is pool_ok with the rule of Vars: past the test of places the nodes decide
use native.Mathlib.Omega.{arith}
use borrow.Author.Tests.{le-leb, lt-leb}
use Rattle.pool.specs.Node.{places}
use borrow.Author.Rules.{rules}
use Rattle.pool_check.proofs.check_plain.Statement.{statement}
use Rattle.pool_check.proofs.check_plain.Tie as tie

places-requires : tie.Need-places-requires
places-requires c κs = search rules

returns : tie.Need-returns-then-places-count
returns c =
    let a = c.args in
    rw (lt-leb a.count (places a.pool.now) (omega (arith, c.places.ensures, c.if-places-count.true)))

first-refused-requires : tie.Need-first_refused-requires
first-refused-requires c κs = search rules

returns-2 : tie.Need-returns
returns-2 c =
    let test = c in
    let a = test.args in
    rw (le-leb a.count (places a.pool.now) (omega (arith, test.places.ensures, test.if-places-count.false))) c.first_refused.ensures

pub check_plain_spec : {M : Type 1} → statement M
check_plain_spec = tie.close (tie.spec places-requires returns first-refused-requires returns-2)
