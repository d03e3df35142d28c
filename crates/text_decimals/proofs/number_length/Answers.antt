-- `number_length` gives the length of a number's decimal text, 1 to 5, by its size.
use Rattle.std.proofs.Common.{arith, sym}
use Rattle.text_digits.proofs.Lengths.{decimal-one}
use Rattle.text_decimals.proofs.Digits.{size}
use Rattle.text_decimals.proofs.number_length.Goals as goal

pub returns-then-x-lt10 : goal.returns-then-x-lt10
returns-then-x-lt10 c = (sym (decimal-one _ c.if-x-lt10.true), omega arith)

pub returns-else-x-lt10 : goal.returns-else-x-lt10
returns-else-x-lt10 c = (sym (size 1 _ c.if-x-lt10.false c.if-x-lt100.true), omega arith)

pub returns-then-x-lt1000 : goal.returns-then-x-lt1000
returns-then-x-lt1000 c = (sym (size 2 _ c.if-x-lt100.false c.if-x-lt1000.true), omega arith)

pub returns-then-x-lt10000 : goal.returns-then-x-lt10000
returns-then-x-lt10000 c = (sym (size 3 _ c.if-x-lt1000.false c.if-x-lt10000.true), omega arith)

pub returns-else-x-lt10000 : goal.returns-else-x-lt10000
returns-else-x-lt10000 c = (sym (size 4 _ c.if-x-lt10000.false c.requires), omega arith)
