use native.Mathlib.Omega.{arith}
use Rattle.facts.proofs.Numbers.{half-fits}
use Rattle.lower_high_narrow.proofs.Narrowing.{high_lane}
use Rattle.lower_high_narrow.proofs.high_narrow_lane.Goals as goal

pub plus_if-value-requires-clause-value_lt_count : goal.plus_if-value-requires-clause-value_lt_count
plus_if-value-requires-clause-value_lt_count c =
    let w = c.requires.a_lt_count in
    (c.bv-sum.ensures.sized.under, omega (arith, w), omega (arith, w), rw c.power-half.ensures (half-fits c.args.lane_bits _ w.2 (omega arith)))

pub returns : goal.returns
returns c =
    let w = c.requires.a_lt_count in
    high_lane c.args.subtract c.args.rounding w.2 w.3 c.sum_op-op.ensures c.power-half.ensures c.bv-sum.ensures c.plus_if-value.ensures c.extract.ensures
