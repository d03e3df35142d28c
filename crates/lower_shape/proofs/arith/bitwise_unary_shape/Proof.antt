-- bitwise_unary_shape: each arm gives the row of its number.
use Rattle.neon.specs.Op.{op_at, operations}
use Rattle.std.proofs.Common.{◌≡◌, arith}
use Rattle.lower_shape.proofs.arith.bitwise_unary_shape.Statement.{statement}
use Rattle.lower_shape.proofs.arith.bitwise_unary_shape.Tie as tie

pub bitwise_unary_shape_spec : {M : Type 1} → statement M
unfolding op_at operations
bitwise_unary_shape_spec =
    tie.close
    (tie.spec
    (λ c i upper. rw c.in-60.is)
    (λ c i upper. rw c.in-61.is)
    (λ c i upper. rw c.in-62.is)
    (λ c i upper. let e : c.args.operation ≡ 63 = omega arith in rw e))
