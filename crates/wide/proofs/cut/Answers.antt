-- `cut` gives the number modulo 2^w, by the word that has bit w.
use Rattle.std.proofs.Common.{arith}
use Rattle.wide.proofs.Digits.{cut-one, cut-two, cut-three}
use Rattle.wide.proofs.cut.Goals as goal

pub returns-then-w-le64 : goal.returns-then-w-le64
returns-then-w-le64 c = cut-one _ (omega arith) _ (omega arith) c.low_bits.ensures

pub returns-then-w-le128 : goal.returns-then-w-le128
returns-then-w-le128 c = cut-two _ (omega arith) _ (omega arith) (omega arith) c.low_bits-then-w-le128.ensures

pub returns : goal.returns
returns c = cut-three _ (omega arith) _ (omega arith) (omega arith) c.low_bits-2.ensures
