-- `sub` gives `bvsub 192`: three differences of words with their borrows are one difference modulo 2^192.
use Rattle.std.proofs.Common.{arith}
use Rattle.wide.proofs.Words.{less-is}
use Rattle.wide.proofs.sub.Goals as goal

pub returns : goal.returns
returns c =
    less-is _ _ _ _ _ _ (omega arith) (omega arith) c.sub_borrow-z.ensures.1
    c.sub_borrow-x.ensures.0 c.sub_borrow-y.ensures.0 c.sub_borrow-z.ensures.0
