use Rattle.lower_bitwise_unary_lane.proofs.Layering.{BitsTo, count_to}
use Rattle.lower_bitwise_unary_lane.proofs.counts.population_count.Given as goal

-- the bits below i are made
abbrev pub invariant-loop-i : goal.invariant-loop-i
invariant-loop-i l = BitsTo l.fn.pool l.fn.count l.pool l.acc 3 l.base.0 l.lane_bits l.value (count_to l.lane_bits) l.i
