-- `length_in_block` meets its contract: each way gives the length up to the ceiling and one.
use native.Mathlib.Omega.{arith}
use lib.Dec.{leb, ltb}
use borrow.Author.Tests.{leb-true, ltb-true}
use Rattle.facts.proofs.Tests.{and_both}
use borrow.Author.Rules.{rules}
use Rattle.text_length.proofs.length_in_block.Statement.{statement}
use Rattle.text_length.proofs.length_in_block.Tie as tie

add-bound : tie.Need-overflow_add-bound
add-bound c = search rules

length-past-registers-requires : tie.Need-length_past_registers-requires
length-past-registers-requires c κs =
    let s = c in
    let n = s.args.n.0 in
    let t = and_both (leb 32 n) (ltb n 256) c.if-n.true in
    (s.requires.0, ((leb-true _ _ t.0, ltb-true _ _ t.1), (omega (arith, s.requires.1), omega arith)))

returns : tie.Need-returns-then-n
returns c = search rules

length-of-few-requires : tie.Need-length_of_few-requires
length-of-few-requires c κs = search rules

returns-2 : tie.Need-returns-then-n-lt1024
returns-2 c = search rules

length-to-requires : tie.Need-length_to-requires
length-to-requires c κs = search rules

returns-3 : tie.Need-returns
returns-3 c = search rules

pub length_in_block_spec : {M : Type 1} → statement M
length_in_block_spec =
    tie.close
    (tie.spec
    add-bound
    length-past-registers-requires
    returns
    length-of-few-requires
    returns-2
    length-to-requires
    returns-3)
