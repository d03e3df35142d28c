-- `xor` gives `bit_xor` of the two numbers, word by word.
use Rattle.std.proofs.Common.{arith}
use Rattle.wide.proofs.Digits.{xor_is}
use Rattle.wide.proofs.xor.Goals as goal

pub returns : goal.returns
returns c = xor_is _ _ (omega arith) (omega arith)
