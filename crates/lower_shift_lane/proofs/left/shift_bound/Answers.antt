-- shift_bound builds `shift_bound`: by the value's sign, or the one bound of the unsigned range
use Rattle.lower_shift_lane.proofs.ShiftingLeft.{bound-signed}
use Rattle.lower_shift_lane.proofs.left.shift_bound.Goals as goal

pub returns-then-signed : goal.returns-then-signed
returns-then-signed c =
    bound-signed c.requires.value_lt_count.1 c.requires.value_lt_count.2 c.if-signed.true c.power-magnitude.ensures c.konst-zero.ensures c.compare-negative.ensures
    c.konst-low.ensures c.konst-high.ensures c.ite.ensures
