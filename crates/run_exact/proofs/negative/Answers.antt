-- `negative` holds the integer negated, in one bit more.
use Rattle.run_exact.proofs.Laws.{negative-held}
use Rattle.run_exact.proofs.negative.Goals as goal

pub returns : goal.returns
returns c = negative-held c.unsigned.ensures c.sub.ensures
