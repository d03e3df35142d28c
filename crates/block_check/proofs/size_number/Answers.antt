-- `size_number` is the definition of its name: 8, then 6, and 0 if there is room.
use Rattle.std.proofs.Common.{arith}
use Rattle.block_check.proofs.Refusals.{too_long, no_room, has_room}
use Rattle.block_check.proofs.size_number.Goals as goal

pub returns-then-count-gt-MOST_RECORDS : goal.returns-then-count-gt-MOST_RECORDS
returns-then-count-gt-MOST_RECORDS c = too_long _ _ c.if-count-gt-MOST_RECORDS.true

pub returns-then-words-count : goal.returns-then-words-count
returns-then-words-count c = no_room _ _ c.if-count-gt-MOST_RECORDS.false (omega arith)

pub returns : goal.returns
returns c = has_room _ _ c.if-count-gt-MOST_RECORDS.false (omega arith)
