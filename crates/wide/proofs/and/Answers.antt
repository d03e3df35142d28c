-- `and` gives `bit_and` of the two numbers, word by word.
use Rattle.std.proofs.Common.{arith}
use Rattle.wide.proofs.Digits.{and_is}
use Rattle.wide.proofs.and.Goals as goal

pub returns : goal.returns
returns c = and_is _ _ (omega arith) (omega arith)
