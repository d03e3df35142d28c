-- shift_shape: each arm gives the row of its number.
use Rattle.neon.specs.Op.{op_at, operations}
use Rattle.std.proofs.Common.{◌≡◌, arith}
use Rattle.lower_shape.proofs.arith.shift_shape.Statement.{statement}
use Rattle.lower_shape.proofs.arith.shift_shape.Tie as tie

pub shift_shape_spec : {M : Type 1} → statement M
unfolding op_at operations
shift_shape_spec =
    tie.close
    (tie.spec
    (λ c κs. tt)
    (λ c κs. tt)
    (λ c κs. tt)
    (λ c κs. tt)
    (λ c κs. tt)
    (λ c κs. tt)
    (λ c κs. tt)
    (λ c κs. tt)
    (λ c κs. tt)
    (λ c κs. tt)
    (λ c κs. tt)
    (λ c κs. tt)
    (λ c κs. tt)
    (λ c κs. tt)
    (λ c κs. tt)
    (λ c κs. tt)
    (λ c upper. rw c.in-1.is c.left.ensures)
    (λ c upper. rw c.in-2.is c.left-in-2.ensures)
    (λ c upper. rw c.in-3.is c.left-in-3.ensures)
    (λ c upper. rw c.in-4.is c.left-in-4.ensures)
    (λ c upper. rw c.in-5.is c.right.ensures)
    (λ c upper. rw c.in-6.is c.right-in-6.ensures)
    (λ c upper. rw c.in-7.is c.right-in-7.ensures)
    (λ c upper. rw c.in-8.is c.right-in-8.ensures)
    (λ c upper. rw c.in-9.is c.register.ensures)
    (λ c upper. rw c.in-10.is c.register-in-10.ensures)
    (λ c upper. rw c.in-11.is c.register-in-11.ensures)
    (λ c upper. rw c.in-12.is c.register-in-12.ensures)
    (λ c upper. rw c.in-13.is c.register-in-13.ensures)
    (λ c upper. rw c.in-14.is c.register-in-14.ensures)
    (λ c upper. rw c.in-15.is c.register-in-15.ensures)
    (λ c upper. let e : c.args.operation ≡ 16 = omega arith in rw e c.register-in_default.ensures))
