-- `signed` holds `S n` of a lane: the lane itself, or with ones above it if its top bit is set.
use native.Mathlib.Omega.{arith}
use Rattle.run_exact.proofs.Laws.{signed_low, signed_high}
use Rattle.run_exact.proofs.signed.Goals as goal

pub returns-then-a-power : goal.returns-then-a-power
returns-then-a-power c =
    signed_low c.args.n c.args.a (omega arith) (omega arith) c.requires.2 (rw c.power.ensures at c.if-a-power.true)

pub returns : goal.returns
returns c =
    signed_high c.args.n c.args.a _ (omega arith) (omega arith) c.requires.2 (omega (arith, c.unsigned_max.ensures)) (rw c.unsigned_max.ensures)
    (rw c.power.ensures at c.if-a-power.false)
