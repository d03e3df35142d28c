-- neon_op: each resolver is asked for its own numbers, and its answer is the operation's row.
use borrow.Author.Rules.{rules}
use Rattle.lower_shape.proofs.neon_op.Statement.{statement}
use Rattle.lower_shape.proofs.neon_op.Tie as tie

-- ---- from past each test of the number back to the entry

pub neon_op_spec : {M : Type 1} → statement M
neon_op_spec =
    tie.close
    (tie.spec
    (λ c κs. search rules)
    (λ c. c.shift_shape.ensures c.args.upper)
    (λ c κs. search rules)
    (λ c. c.shift_insert_shape.ensures c.args.upper)
    (λ c κs. search rules)
    (λ c. c.saturating_shape.ensures)
    (λ c κs. search rules)
    (λ c. let a = c.args in c.doubling_long_shape.ensures a.i a.upper)
    (λ c κs. search rules)
    (λ c. let a = c.args in c.mixed_sign_add_shape.ensures a.i a.upper)
    (λ c κs. search rules)
    (λ c. let a = c.args in c.absolute_difference_shape.ensures a.i a.upper)
    (λ c κs. search rules)
    (λ c. let a = c.args in c.bitwise_unary_shape.ensures a.i a.upper)
    (λ c κs. search rules)
    (λ c. c.high_narrow_shape.ensures c.args.i))
