-- `sum_of` holds `high_z`, the exact sum or difference of two unsigned lanes, in 66 bits.
use native.Mathlib.Omega.{arith}
use Rattle.run_lanes.proofs.sum_of.Goals as goal

pub returns-then-subtract : goal.returns-then-subtract
returns-then-subtract c =
    let less = c in
    rw less.if-subtract.true (c.join.ensures 65 _ _ (omega arith) less.unsigned.ensures c.unsigned-then-subtract.ensures)

pub returns : goal.returns
returns c =
    let sum = c in
    rw sum.if-subtract.false (c.join-2.ensures 65 _ _ (omega arith) sum.unsigned-2.ensures c.unsigned-3.ensures)
