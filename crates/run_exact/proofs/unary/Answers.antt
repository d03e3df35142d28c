-- `unary` holds the negative or the magnitude, as the flag says.
use Rattle.run_exact.proofs.unary.Goals as goal

pub returns-then-negate : goal.returns-then-negate
returns-then-negate c = rw c.if-negate.true (λ w z hw h p. c.negative.ensures w z hw p)
