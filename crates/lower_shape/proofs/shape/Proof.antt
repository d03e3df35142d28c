-- shape is `shape_of`: the row of the operation, and the arrangement's lanes
use native.Mathlib.Omega.{arith}
use mathlib.Core.Path.{refl}
use Rattle.neon.specs.Op.{arrangement_at}
use Rattle.neon.proofs.Geometry.{sized}
use borrow.Author.Rules.{rules}
use Rattle.lower_shape.proofs.shape.Statement.{statement}
use Rattle.lower_shape.proofs.shape.Tie as tie

is-full-requires : tie.Need-is_full-full-requires
is-full-requires c κs = search rules

neon-op-requires : tie.Need-neon_op-op-requires
neon-op-requires c κs = search rules

lane-bits-requires : tie.Need-lane_bits-bits-requires
lane-bits-requires c κs = search rules

made-bits-requires : tie.Need-made_bits-made-requires
made-bits-requires c κs = search rules

div-t8 : tie.Need-nonzero_div-result
div-t8 c =
    let s = c in
    omega (arith, c.lane_bits-bits.ensures, (sized (arrangement_at s.args.arrangement)).eight)

returns : tie.Need-returns
returns c =
    let bits = c in
    let op = c in
    rw (c.made_bits-made.ensures, op.neon_op-op.ensures, op.is_full-full.ensures, bits.lane_bits-bits.ensures) refl

pub shape_spec : {M : Type 1} → statement M
shape_spec =
    tie.close
    (tie.spec
    is-full-requires
    neon-op-requires
    lane-bits-requires
    made-bits-requires
    div-t8
    returns)
