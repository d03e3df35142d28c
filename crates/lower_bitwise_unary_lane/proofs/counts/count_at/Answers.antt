use Rattle.lower_bitwise_unary_lane.proofs.Layering.{count_at}
use Rattle.lower_bitwise_unary_lane.proofs.counts.count_at.Goals as goal

pub returns : goal.returns
returns c =
    let w = c.requires.value_lt_count in
    count_at w.2 w.3 c.extract-one.ensures c.zero_ext-wide.ensures c.bv.ensures
