-- absolute_difference_shape: each arm gives the row of its number.
use Rattle.neon.specs.Op.{op_at, operations}
use Rattle.std.proofs.Common.{◌≡◌, arith}
use Rattle.lower_shape.proofs.arith.absolute_difference_shape.Statement.{statement}
use Rattle.lower_shape.proofs.arith.absolute_difference_shape.Tie as tie

pub absolute_difference_shape_spec : {M : Type 1} → statement M
unfolding op_at operations
absolute_difference_shape_spec =
    tie.close
    (tie.spec
    (λ c κs. tt)
    (λ c κs. tt)
    (λ c κs. tt)
    (λ c κs. tt)
    (λ c i upper. rw c.in-56.is c.integer.ensures)
    (λ c i upper. rw c.in-57.is c.integer-in-57.ensures)
    (λ c i upper. rw c.in-58.is c.integer-in-58.ensures)
    (λ c i upper. let e : c.args.operation ≡ 59 = omega arith in rw e c.integer-in_default.ensures))
