-- `ite` meets its contract: the words of an Ite, with the registers of all three operands, and its term.
use native.Mathlib.Omega.{arith}
use mathlib.Core.Path.{ap₂}
use lib.Bits.{bit_or, or_lt}
use Rattle.pool_nodes.proofs.Nodes.{ite-built}
use borrow.Author.Rules.{rules}
use Rattle.pool_nodes.proofs.ite.Statement.{statement}
use Rattle.pool_nodes.proofs.ite.Tie as tie

-- the width is read; before it the registers of the else, and before those of the condition and the then
union-requires : tie.Need-union-requires
union-requires c κs = search rules

set-of-requires : tie.Need-set_of-requires
set-of-requires c κs = search rules

width-requires : tie.Need-width-requires
width-requires c κs = search rules

operands-word-requires : tie.Need-operands_word-requires
operands-word-requires c κs = search rules

push-requires : tie.Need-push-requires
push-requires c κs = search rules

same_length : tie.Need-shape_of-pool
same_length c = search rules

kind-word-requires : tie.Need-kind_word-w0-requires
kind-word-requires c κs =
    (omega arith, omega (arith, c.width.ensures.1), or_lt 32 c.union.result c.set_of.result c.union.ensures.1 c.set_of.ensures.1)

returns : tie.Need-returns
returns c =
    let l-push = c in
    let l-operands-word = c in
    let l-kind-word = c in
    let l-width = c in
    let s = c in
    ite-built s.requires.0 s.requires.1.0 s.requires.1.1 l-width.width.ensures.0 (ap₂ bit_or l-width.union.ensures.0 l-width.set_of.ensures.0)
    l-kind-word.kind_word-w0.ensures l-operands-word.operands_word.ensures l-push.push.ensures

pub ite_spec : {M : Type 1} → statement M
ite_spec =
    tie.close
    (tie.spec
    union-requires
    set-of-requires
    width-requires
    kind-word-requires
    operands-word-requires
    push-requires
    same_length
    returns)
