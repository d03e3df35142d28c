use Rattle.lower_shift_insert.proofs.Inserting.{low-le}
use Rattle.lower_shift_insert.proofs.kept_bits.Goals as goal

pub overflow_sub-result : goal.overflow_sub-result
overflow_sub-result c = low-le c.args.lane_bits c.args.shift c.unsigned_max.ensures c.low_bits-2.ensures
