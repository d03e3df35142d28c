-- `difference_lane` gives the magnitude of the exact difference, added to d if it accumulates, in n bits; it never saturates.
use native.Mathlib.Omega.{arith}
use Rattle.run_exact.proofs.Laws.{fitting}
use Rattle.run_lanes.proofs.difference_lane.Goals as goal

pub returns-then-accumulate : goal.returns-then-accumulate
returns-then-accumulate c =
    let at-unsigned = c in
    let at-if = c in
    let at-magnitude = c in
    let magnitude = at-magnitude.magnitude-m.ensures 66 _ (omega arith) (omega arith)
    (at-magnitude.join.ensures 65 _ _ (omega arith) at-magnitude.read.ensures at-magnitude.read-2.ensures) in
    rw at-if.if-accumulate.true (c.limit.ensures _ (fitting (omega arith)
    (c.join-then-accumulate.ensures 67 _ _ (omega arith) (fitting (omega arith) at-unsigned.unsigned.ensures) magnitude)))

pub returns : goal.returns
returns c =
    let at-magnitude = c in
    let magnitude = at-magnitude.magnitude-m.ensures 66 _ (omega arith) (omega arith)
    (at-magnitude.join.ensures 65 _ _ (omega arith) at-magnitude.read.ensures at-magnitude.read-2.ensures) in
    rw c.if-accumulate.false (c.limit-2.ensures _ (fitting (omega arith) magnitude))
