use Rattle.lower_bitwise_unary_lane.proofs.Layering.{BitsTo, zeros_to}
use Rattle.lower_bitwise_unary_lane.proofs.counts.leading_zeros.Given as goal

-- the bits below i are made
abbrev pub invariant-loop-i : goal.invariant-loop-i
invariant-loop-i l = BitsTo l.fn.pool l.fn.count l.pool l.acc 5 l.base.0 l.bits l.value (zeros_to l.bits) l.i
