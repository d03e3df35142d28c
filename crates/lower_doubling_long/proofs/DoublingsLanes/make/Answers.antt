use native.Mathlib.Omega.{arith}
use mathlib.Core.Path.{refl}
use Rattle.lower_doubling_long.proofs.Multiplying.{doubled-lane, factor-in}
use Rattle.lower_doubling_long.proofs.DoublingsLanes.make.Goals as goal

pub extract_lane-a-requires-clause-value_lt_count : goal.extract_lane-a-requires-clause-value_lt_count
extract_lane-a-requires-clause-value_lt_count c =
    let s = c.args.self.now in
    omega (arith, c.requires.ready.0.1 refl, s.fits, factor-in s.upper s.lane_bits s.lanes c.requires.ready.1 c.source_lane-from.ensures s.fits.2)

pub second_lane-b-requires-clause-second_bound : goal.second_lane-b-requires-clause-second_bound
second_lane-b-requires-clause-second_bound c =
    let s = c.args.self.now in
    let under = c.requires.ready.0.2 refl in
    omega (arith, under, s.fits, c.extract_lane-a.ensures.sized, factor-in s.upper s.lane_bits s.lanes c.requires.ready.1 c.source_lane-from.ensures s.fits.2)

pub returns : goal.returns
returns c =
    let s = c.args.self.now in
    doubled-lane s.combine s.upper s.second c.requires.ready.1 c.source_lane-from.ensures c.extract_lane-a.ensures c.second_lane-b.ensures
    c.doubling_product-product.ensures c.combine_at.ensures
