-- `right` holds `right_z`: the integer over 2^k, floored, after half of 2^k was added if it rounds.
use native.Mathlib.Omega.{arith}
use Rattle.run_exact.proofs.Laws.{floor-held, round-held}
use Rattle.wide.proofs.Words.{num-lt}
use Rattle.run_exact.proofs.right.Goals as goal

pub bv_ashr-requires : goal.bv_ashr-requires
bv_ashr-requires c = (omega arith, omega arith, num-lt _ (omega arith))

pub returns-then-rounding : goal.returns-then-rounding
returns-then-rounding c =
    rw c.if-rounding.true (round-held (omega arith) (omega arith) c.unsigned.ensures c.shl.ensures c.add.ensures
    c.unsigned-then-rounding.ensures c.bv_ashr.ensures)

pub bv_ashr-requires-2 : goal.bv_ashr-requires-2
bv_ashr-requires-2 c = (omega arith, omega arith, num-lt _ (omega arith))

pub returns : goal.returns
returns c = rw c.if-rounding.false (floor-held (omega arith) c.unsigned-2.ensures c.bv_ashr-2.ensures)
