-- `add` gives `bvadd 192`: three sums of words with their carries are one sum modulo 2^192.
use Rattle.std.proofs.Common.{arith}
use Rattle.wide.proofs.Words.{sum_is}
use Rattle.wide.proofs.add.Goals as goal

pub returns : goal.returns
returns c =
    sum_is _ _ _ _ _ _ (omega arith) c.add_carry-x.ensures.0 c.add_carry-y.ensures.0 c.add_carry-z.ensures.0
