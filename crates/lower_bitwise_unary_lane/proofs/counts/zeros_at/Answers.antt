use Rattle.lower_bitwise_unary_lane.proofs.Layering.{zeros-at}
use Rattle.lower_bitwise_unary_lane.proofs.counts.zeros_at.Goals as goal

pub returns : goal.returns
returns c =
    let w = c.requires.value_lt_count in
    zeros-at w.2 w.3 c.extract-tested.ensures c.konst-one.ensures c.compare-set.ensures c.konst-zeros.ensures c.ite.ensures
