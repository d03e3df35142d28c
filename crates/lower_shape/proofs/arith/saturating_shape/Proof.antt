-- saturating_shape: each of the two tables is asked for its own numbers.
use native.Mathlib.Omega.{arith}
use mathlib.Core.Logic.{inl, inr}
use Rattle.lower_shape.proofs.arith.saturating_shape.Statement.{statement}
use Rattle.lower_shape.proofs.arith.saturating_shape.Tie as tie

pub saturating_shape_spec : {M : Type 1} → statement M
saturating_shape_spec =
    tie.close
    (tie.spec
    (λ c κs. (c.requires.0, c.requires.1, inl (omega (arith, c.if-operation-lt27.true))))
    (λ c. c.saturating_same_width.ensures c.args.i c.args.upper)
    (λ c κs. omega (arith, c.if-operation-lt27.false, c.if-operation-lt38.true))
    (λ c. c.saturating_narrowing.ensures)
    (λ c κs. (c.requires.0, c.requires.1, inr c.if-operation-lt38.false))
    (λ c. c.saturating_same_width-2.ensures c.args.i c.args.upper))
