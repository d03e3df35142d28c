-- doubling_long_shape: each arm gives the row of its number.
use Rattle.neon.specs.Op.{op_at, operations}
use Rattle.std.proofs.Common.{◌≡◌, arith}
use Rattle.lower_shape.proofs.arith.doubling_long_shape.Statement.{statement}
use Rattle.lower_shape.proofs.arith.doubling_long_shape.Tie as tie

pub doubling_long_shape_spec : {M : Type 1} → statement M
unfolding op_at operations
doubling_long_shape_spec =
    tie.close
    (tie.spec
    (λ c κs. tt)
    (λ c κs. tt)
    (λ c κs. tt)
    (λ c κs. tt)
    (λ c κs. tt)
    (λ c κs. tt)
    (λ c κs. tt)
    (λ c κs. tt)
    (λ c κs. tt)
    (λ c κs. tt)
    (λ c κs. tt)
    (λ c κs. tt)
    (λ c i upper. rw c.in-42.is c.long.ensures)
    (λ c i upper. rw c.in-43.is c.long-in-43.ensures)
    (λ c i upper. rw c.in-44.is c.long-in-44.ensures)
    (λ c i upper. rw c.in-45.is c.long-in-45.ensures)
    (λ c i upper. rw c.in-46.is c.long-in-46.ensures)
    (λ c i upper. rw c.in-47.is c.long-in-47.ensures)
    (λ c i upper. rw c.in-48.is c.long-in-48.ensures)
    (λ c i upper. rw c.in-49.is c.long-in-49.ensures)
    (λ c i upper. rw c.in-50.is c.long-in-50.ensures)
    (λ c i upper. rw c.in-51.is c.long-in-51.ensures)
    (λ c i upper. rw c.in-52.is c.long-in-52.ensures)
    (λ c i upper. let e : c.args.operation ≡ 53 = omega arith in rw e c.long-in_default.ensures))
