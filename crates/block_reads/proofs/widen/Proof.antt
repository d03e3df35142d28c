-- widen builds `widen_tree`: the result itself, or its zero extension
use native.Mathlib.Omega.{arith}
use mathlib.Core.Path.{refl}
use Rattle.block_reads.proofs.Reading.{widen_none, widen-some}
use Rattle.block_reads.proofs.widen.Statement.{statement}
use Rattle.block_reads.proofs.widen.Tie as tie

returns : tie.Need-returns-then-whole
returns c = widen_none c.if-whole.true c.requires.1 refl refl

zero-ext-requires : tie.Need-zero_ext-requires
zero-ext-requires c κs =
    let p = c.requires in
    (p.0, (p.1, omega arith))

same_length : tie.Need-shape_of-pool
same_length c = omega (arith, c.zero_ext.ensures.sized)

returns-2 : tie.Need-returns
returns-2 c =
    let extended = c in
    widen-some extended.if-whole.false extended.zero_ext.ensures

pub widen_spec : {M : Type 1} → statement M
widen_spec = tie.close (tie.spec returns zero-ext-requires same_length returns-2)
