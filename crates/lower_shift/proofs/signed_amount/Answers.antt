use Rattle.lower_shift.proofs.Lanes.{amount-byte, amount-whole}
use Rattle.lower_shift.proofs.signed_amount.Goals as goal

pub returns-then-lane_bits-gt8 : goal.returns-then-lane_bits-gt8
returns-then-lane_bits-gt8 c = amount-byte c.if-lane_bits-gt8.true c.requires.second_lt_count.2 c.extract_collapsing-byte.ensures c.sign_ext.ensures

pub returns : goal.returns
returns c = amount-whole c.if-lane_bits-gt8.false c.extract_lane.ensures
