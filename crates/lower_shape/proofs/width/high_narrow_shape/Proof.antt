-- high_narrow_shape: each arm gives the row of its number.
use Rattle.neon.specs.Op.{op_at, operations}
use Rattle.std.proofs.Common.{◌≡◌, arith}
use Rattle.lower_shape.proofs.width.high_narrow_shape.Statement.{statement}
use Rattle.lower_shape.proofs.width.high_narrow_shape.Tie as tie

pub high_narrow_shape_spec : {M : Type 1} → statement M
unfolding op_at operations
high_narrow_shape_spec =
    tie.close
    (tie.spec
    (λ c κs. tt)
    (λ c κs. tt)
    (λ c κs. tt)
    (λ c κs. tt)
    (λ c i. rw c.in-64.is c.high.ensures)
    (λ c i. rw c.in-65.is c.high-in-65.ensures)
    (λ c i. rw c.in-66.is c.high-in-66.ensures)
    (λ c i. let e : c.args.operation ≡ 67 = omega arith in rw e c.high-in_default.ensures))
