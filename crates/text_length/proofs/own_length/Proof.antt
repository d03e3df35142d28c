-- `own_length` meets its contract: the characters of a node that are not its operands'.
use mathlib.Core.Path.{◌≡◌, ap}
use native.Mathlib.Omega.{arith}
use lib.ListN.{length}
use borrow.Author.Tests.{ne_eqb}
use Rattle.pool.specs.Node.{kinds, kind_at}
use Rattle.text_operators.specs.Between.{between_text}
use Rattle.text_parts.specs.Text.{open_text}
use Rattle.text_parts.proofs.Tree.{bracket}
use borrow.Author.Rules.{rules}
use Rattle.text_length.proofs.own_length.Statement.{statement}
use Rattle.text_length.proofs.own_length.Tie as tie

operator-length-requires : tie.Need-operator_length-requires
operator-length-requires c κs = search rules

add-result : tie.Need-overflow_add-result
add-result c = search rules

returns : tie.Need-returns-then-k-lt-ITE
returns c =
    let o = c in
    let s = c in
    rw (ne_eqb s.args.k 15 (λ q. omega (arith, q, o.if-k-lt-ITE.true))) (omega (arith, ap length (bracket s.requires.from o.if-k-lt-ITE.true), c.operator_length.ensures))

returns-2 : tie.Need-returns-then-k-eq-ITE
unfolding open_text between_text kind_at kinds
returns-2 c = rw c.if-k-eq-ITE.true

returns-3 : tie.Need-returns-else-k-eq-ITE
unfolding open_text between_text kind_at kinds
returns-3 c =
    let e = c in
    let s = c in
    let concat : s.args.k ≡ 17 = omega (arith, s.requires.to, e.if-k-lt-ITE.false, c.if-k-eq-ITE.false, s.requires.no_extract) in
    rw concat

pub own_length_spec : {M : Type 1} → statement M
own_length_spec =
    tie.close (tie.spec operator-length-requires add-result returns returns-2 returns-3)
