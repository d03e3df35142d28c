-- mixed_sign_add_shape: each arm gives the row of its number.
use Rattle.neon.specs.Op.{op_at, operations}
use Rattle.std.proofs.Common.{◌≡◌, arith}
use Rattle.lower_shape.proofs.arith.mixed_sign_add_shape.Statement.{statement}
use Rattle.lower_shape.proofs.arith.mixed_sign_add_shape.Tie as tie

pub mixed_sign_add_shape_spec : {M : Type 1} → statement M
unfolding op_at operations
mixed_sign_add_shape_spec =
    tie.close
    (tie.spec
    (λ c i upper. rw c.in-54.is)
    (λ c i upper. let e : c.args.operation ≡ 55 = omega arith in rw e))
