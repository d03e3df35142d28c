-- `high_lane` gives the upper half of the exact sum or difference in twice n bits, with half of its last bit added if it rounds.
use native.Mathlib.Omega.{arith}
use mathlib.Core.Path.{ap}
use Rattle.run_exact.proofs.Laws.{fitting}
use Prim.Native.Nat.{ℕ, ◌/◌, ◌^◌}
use Rattle.run_lanes.proofs.high_lane.Goals as goal

pub returns-then-rounding : goal.returns-then-rounding
returns-then-rounding c =
    let at_join = c in
    let at-unsigned = c in
    let at-power = c in
    let rounding = c in
    let at-sum-of = c in
    rw (rounding.if-rounding.true, c.power-then-rounding.ensures) (ap (λ (t : ℕ). t / 2 ^ at-sum-of.args.n)
    (c.keep.ensures 67 _ (at_join.join.ensures 66 _ _ (omega arith) at-sum-of.sum_of-s.ensures
    (rw at-power.power.ensures at (fitting {u = 66} (omega arith) at-unsigned.unsigned.ensures)))))

pub returns : goal.returns
returns c =
    let exact = c in
    let at-sum-of = c in
    rw (exact.if-rounding.false, c.power-2.ensures) (ap (λ (t : ℕ). t / 2 ^ at-sum-of.args.n) (c.keep-2.ensures 66 _ at-sum-of.sum_of-s.ensures))
