-- union is the union of two nodes' sets, and stays below 2^32
use lib.Bits.{or_lt}
use mathlib.Core.Path.{ap₂}
use lib.Bits.{bit_or}
use borrow.Author.Rules.{rules}
use Rattle.pool_nodes.proofs.union.Statement.{statement}
use Rattle.pool_nodes.proofs.union.Tie as tie

set-of-requires : tie.Need-set_of-requires
set-of-requires c κs = search rules

set-of-requires-2 : tie.Need-set_of-requires-2
set-of-requires-2 c κs = search rules

returns : tie.Need-returns
returns c =
    let l-set-of2 = c in
    let l-set-of = l-set-of2.before in (
      ap₂ bit_or l-set-of.set_of.ensures.0 l-set-of2.set_of-2.ensures.0,
      or_lt 32 l-set-of.set_of.result l-set-of2.set_of-2.result l-set-of.set_of.ensures.1 l-set-of2.set_of-2.ensures.1,
    )

pub union_spec : {M : Type 1} → statement M
union_spec =
    tie.close
    (tie.spec
    set-of-requires
    set-of-requires-2
    returns)
