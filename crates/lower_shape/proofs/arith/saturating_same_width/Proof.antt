-- saturating_same_width: each arm gives the row of its number.
use Rattle.std.proofs.Common.{◌≡◌, arith}
use Rattle.neon.specs.Op.{op_at, operations}
use Rattle.lower_shape.proofs.arith.saturating_same_width.Statement.{statement}
use Rattle.lower_shape.proofs.arith.saturating_same_width.Tie as tie

pub saturating_same_width_spec : {M : Type 1} → statement M
unfolding op_at operations
saturating_same_width_spec =
    tie.close
    (tie.spec
    (λ c κs. tt)
    (λ c κs. tt)
    (λ c κs. tt)
    (λ c κs. tt)
    (λ c κs. tt)
    (λ c κs. tt)
    (λ c κs. tt)
    (λ c κs. tt)
    (λ c κs. tt)
    (λ c κs. tt)
    (λ c κs. tt)
    (λ c κs. tt)
    (λ c i upper. rw c.in-19.is c.add_sub.ensures)
    (λ c i upper. rw c.in-20.is c.add_sub-in-20.ensures)
    (λ c i upper. rw c.in-21.is c.add_sub-in-21.ensures)
    (λ c i upper. rw c.in-22.is c.add_sub-in-22.ensures)
    (λ c i upper. rw c.in-23.is c.halving.ensures)
    (λ c i upper. rw c.in-24.is c.halving-in-24.ensures)
    (λ c i upper. rw c.in-25.is c.halving-in-25.ensures)
    (λ c i upper. rw c.in-26.is c.halving-in-26.ensures)
    (λ c i upper. rw c.in-38.is c.unary.ensures)
    (λ c i upper. rw c.in-39.is c.unary-in-39.ensures)
    (λ c i upper. rw c.in-40.is c.multiply_high.ensures)
    (λ c i upper. let e : c.args.operation ≡ 41 = omega arith in rw e c.multiply_high-in_default.ensures))
