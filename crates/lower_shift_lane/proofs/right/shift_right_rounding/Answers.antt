-- shift_right_rounding builds `shift_right` with rounding: each call has its room, and the width is `rounding_bits`
use Rattle.lower_shift_lane.proofs.Shifting.{rounded-shift}
use Rattle.lower_shift_lane.proofs.right.shift_right_rounding.Goals as goal

pub returns : goal.returns
returns c =
    let wide = c.rounding_bits-wide.ensures in
    rounded-shift c.args.max_shift c.requires.value_lt_count.2 wide.0 c.shift_op-op.ensures wide.1 wide.3
    c.zero_ext-wide_amount.ensures c.konst-one.ensures c.bv-less.ensures c.bv-half.ensures c.extend-wide_value.ensures
    c.bv-sum.ensures c.bv-shifted.ensures c.extract.ensures
