-- `or` gives `bit_or` of the two numbers, word by word.
use Rattle.std.proofs.Common.{arith}
use Rattle.wide.proofs.Digits.{or_is}
use Rattle.wide.proofs.or.Goals as goal

pub returns : goal.returns
returns c = or_is _ _ (omega arith) (omega arith)
