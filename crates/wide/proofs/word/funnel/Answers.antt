-- `funnel`: the bits of `high` that stay and those of `low` that come in do not meet, so their Or is their sum.
use Rattle.std.proofs.Common.{arith}
use Rattle.wide.proofs.Shifts.{funnel-is}
use Rattle.wide.proofs.word.funnel.Goals as goal

pub returns : goal.returns
returns c = funnel-is _ _ _ (omega arith) (omega arith)
