use Rattle.lower_bitwise_unary_lane.proofs.Bitwise.{sign-bits}
use Rattle.lower_bitwise_unary_lane.proofs.counts.leading_sign_bits.Goals as goal

pub returns : goal.returns
returns c =
    let w = c.requires.value_lt_count in
    sign-bits w.1 w.2 c.extract-high.ensures c.extract-low.ensures c.bv-folded.ensures c.leading_zeros-zeros.ensures c.zero_ext.ensures
