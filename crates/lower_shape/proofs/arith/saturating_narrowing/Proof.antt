-- saturating_narrowing: each arm gives the row of its number.
use Rattle.neon.specs.Op.{op_at, operations}
use Rattle.std.proofs.Common.{◌≡◌, arith}
use Rattle.lower_shape.proofs.arith.saturating_narrowing.Statement.{statement}
use Rattle.lower_shape.proofs.arith.saturating_narrowing.Tie as tie

pub saturating_narrowing_spec : {M : Type 1} → statement M
unfolding op_at operations
saturating_narrowing_spec =
    tie.close
    (tie.spec
    (λ c κs. tt)
    (λ c κs. tt)
    (λ c κs. tt)
    (λ c κs. tt)
    (λ c κs. tt)
    (λ c κs. tt)
    (λ c κs. tt)
    (λ c κs. tt)
    (λ c κs. tt)
    (λ c κs. tt)
    (λ c κs. tt)
    (λ c. rw c.in-27.is c.narrow.ensures)
    (λ c. rw c.in-28.is c.narrow-in-28.ensures)
    (λ c. rw c.in-29.is c.narrow-in-29.ensures)
    (λ c. rw c.in-30.is c.shift_narrow.ensures)
    (λ c. rw c.in-31.is c.shift_narrow-in-31.ensures)
    (λ c. rw c.in-32.is c.clamped.ensures)
    (λ c. rw c.in-33.is c.clamped-in-33.ensures)
    (λ c. rw c.in-34.is c.clamped-in-34.ensures)
    (λ c. rw c.in-35.is c.clamped-in-35.ensures)
    (λ c. rw c.in-36.is c.clamped-in-36.ensures)
    (λ c. let e : c.args.operation ≡ 37 = omega arith in rw e c.clamped-in_default.ensures))
