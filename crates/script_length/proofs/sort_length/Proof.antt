-- `sort_length` gives the length of a sort, at most 16.
use mathlib.Core.Path.{sym}
use native.Mathlib.Omega.{arith}
use Rattle.script_length.proofs.Sizes.{size-bool, size-vector}
use borrow.Author.Rules.{rules}
use Rattle.script_length.proofs.sort_length.Statement.{statement}
use Rattle.script_length.proofs.sort_length.Tie as tie

returns : tie.Need-returns-then-width-eq0
returns c = (sym (size-bool _ c.if-width-eq0.true), omega arith)

number-length-requires : tie.Need-number_length-requires
number-length-requires c κs = search rules

add-result : tie.Need-overflow_add-result
add-result c = search rules

returns-2 : tie.Need-returns
returns-2 c = (omega (arith, c.number_length.ensures.0, size-vector c.args.width c.if-width-eq0.false), omega (arith, c.number_length.ensures.1))

pub sort_length_spec : {M : Type 1} → statement M
sort_length_spec = tie.close (tie.spec returns number-length-requires add-result returns-2)
