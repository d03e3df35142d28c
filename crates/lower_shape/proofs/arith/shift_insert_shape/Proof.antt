-- shift_insert_shape: each arm gives the row of its number.
use Rattle.neon.specs.Op.{op_at, operations}
use Rattle.std.proofs.Common.{◌≡◌, arith}
use Rattle.lower_shape.proofs.arith.shift_insert_shape.Statement.{statement}
use Rattle.lower_shape.proofs.arith.shift_insert_shape.Tie as tie

pub shift_insert_shape_spec : {M : Type 1} → statement M
unfolding op_at operations
shift_insert_shape_spec =
    tie.close
    (tie.spec
    (λ c upper. rw c.in-17.is)
    (λ c upper. let e : c.args.operation ≡ 18 = omega arith in rw e))
