-- read_if is a read of a register in each of its cases: not used, whole, its low half
use borrow.Author.Tests.{not-true, not-false}
use native.Mathlib.Omega.{arith}
use mathlib.Core.Path.{refl}
use Rattle.block_reads.proofs.Reading.{read_none, read_whole, read-half}
use borrow.Author.Rules.{rules}
use Rattle.block_reads.proofs.read_if.Statement.{statement}
use Rattle.block_reads.proofs.read_if.Tie as tie

none-requires : tie.Need-none-requires
none-requires c κs = search rules

returns : tie.Need-returns-then-not-used
returns c = read_none refl (not-true _ c.if-not-used.true-raw)

returns-2 : tie.Need-returns-then-whole
returns-2 c = read_whole refl c.if-whole.true refl c.requires.1

extract-collapsing-requires : tie.Need-extract_collapsing-requires
extract-collapsing-requires c κs =
    let p = c.requires in
    (p.0, (p.1, omega arith, omega arith))

same_length : tie.Need-shape_of-pool
same_length c = omega (arith, c.extract_collapsing.ensures.sized)

returns-3 : tie.Need-returns
returns-3 c =
    let cut = c in
    let half = c in
    read-half (not-false _ half.if-not-used.false-raw) half.if-whole.false cut.extract_collapsing.ensures

pub read_if_spec : {M : Type 1} → statement M
read_if_spec =
    tie.close (tie.spec none-requires returns returns-2 extract-collapsing-requires same_length returns-3)
