use Rattle.lower_bitwise_unary_lane.proofs.Bitwise.{lane_count, lane-zeros, lane-signs, lane-reversed}
use Rattle.lower_bitwise_unary_lane.proofs.bitwise_unary_lane.Goals as goal

pub returns-in-PopulationCount : goal.returns-in-PopulationCount
returns-in-PopulationCount c = lane_count c.in-PopulationCount.is c.population_count.ensures

pub returns-in-LeadingZeros : goal.returns-in-LeadingZeros
returns-in-LeadingZeros c = lane-zeros c.in-LeadingZeros.is c.leading_zeros.ensures

pub returns-in-LeadingSignBits : goal.returns-in-LeadingSignBits
returns-in-LeadingSignBits c = lane-signs c.in-LeadingSignBits.is c.leading_sign_bits.ensures

pub returns-in-ReverseBits : goal.returns-in-ReverseBits
returns-in-ReverseBits c = lane-reversed c.in-ReverseBits.is c.reverse_bits.ensures
