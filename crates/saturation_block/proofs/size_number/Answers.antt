-- `size_number`: the two tests are those of `flag_size`.
use Rattle.std.proofs.Common.{arith}
use Rattle.saturation_block.proofs.Done.{too_long, no_room, has_room}
use Rattle.saturation_block.proofs.size_number.Goals as goal

pub returns-then-count-gt-MOST_SATURATION_RECORDS : goal.returns-then-count-gt-MOST_SATURATION_RECORDS
returns-then-count-gt-MOST_SATURATION_RECORDS c = too_long _ _ c.if-count-gt-MOST_SATURATION_RECORDS.true

pub returns-then-words-count : goal.returns-then-words-count
returns-then-words-count c = no_room _ _ c.if-count-gt-MOST_SATURATION_RECORDS.false (omega arith)

pub returns : goal.returns
returns c = has_room _ _ c.if-count-gt-MOST_SATURATION_RECORDS.false (omega arith)
