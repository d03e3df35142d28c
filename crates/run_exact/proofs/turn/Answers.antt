-- `turn` holds `turn_z` by the signed low byte: to the left below 128, else to the right by 256 less it.
use native.Mathlib.Omega.{arith}
use Rattle.run_exact.proofs.Laws.{turn-left, turn-right}
use Rattle.run_exact.proofs.turn.Goals as goal

pub returns-then-amount-lt128 : goal.returns-then-amount-lt128
returns-then-amount-lt128 c = λ z p. turn-left c.args.rounding z c.args.b c.if-amount-lt128.true (c.scaled.ensures 65 z (omega arith) p)

pub returns : goal.returns
returns c = λ z p. turn-right c.args.rounding z c.args.b c.if-amount-lt128.false (c.right.ensures 65 z (omega arith) p)
