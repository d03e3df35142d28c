-- `doubling_lane` answers `doubling_lane_z` and `doubling_beyond`: the product is clamped, then the sum with it, and either may saturate.
use native.Mathlib.Omega.{arith}
use Rattle.run_exact.proofs.Laws.{fitting}
use Rattle.run_lanes.proofs.Lanes.{bits-lt, again, both}
use Rattle.run_lanes.proofs.doubling_lane.Goals as goal

pub read-requires-in-Some : goal.read-requires-in-Some
read-requires-in-Some c =
    let at-limit = c in
    let at-doubled-product = c in
    let s = c in (
      omega arith,
      omega arith,
      bits-lt s.args.n _ (at-limit.limit-p.ensures _
          (fitting (omega arith) at-doubled-product.doubled_product.ensures)),
    )

pub returns-in-Some : goal.returns-in-Some
returns-in-Some c =
    let at-limit = c in
    let at_join = c in
    let at_read = c in
    let at-read2 = c in
    let at-combine = c in
    let at-limit2 = c in
    let at-doubled-product = c in
    let s = c in
    let p = at-limit2.limit-p.ensures _ (fitting (omega arith) at-doubled-product.doubled_product.ensures) in
    rw at-combine.in-Some.is (both p (at-limit.limit-q.ensures _
    (fitting (omega arith) (at_join.join.ensures 65 _ _ (omega arith) at-read2.read.ensures
    (again s.args.n _ (omega arith) p at_read.read-in-Some.ensures)))))
