-- `decimal_length` returns the number of decimal digits: one, two or three.
use Rattle.std.proofs.Common.{arith}
use Rattle.text_digits.proofs.Lengths.{decimal-one, decimal-two, decimal-three}
use Rattle.text_digits.proofs.decimal_length.Goals as goal
use Rattle.text_digits.proofs.decimal_length.Goals.{then-x-lt10, else-x-lt10}

pub returns-then-x-lt100 : goal.returns-then-x-lt100
returns-then-x-lt100 c =
    elim c.if-x-lt10.branch [
      | then-x-lt10 w ↦ omega (arith, w.digits-is, decimal-one c.args.x w.if-x-lt10.true)
      | else-x-lt10 w ↦ omega (arith, w.digits-is, decimal-two c.args.x w.if-x-lt10.false c.if-x-lt100.true)
    ]

pub returns-else-x-lt100 : goal.returns-else-x-lt100
returns-else-x-lt100 c =
    let three = decimal-three c.args.x c.if-x-lt100.false c.requires in
    elim c.if-x-lt10.branch [
      | then-x-lt10 w ↦ absurd (omega (arith, w.if-x-lt10.true, c.if-x-lt100.false))
      | else-x-lt10 w ↦ omega (arith, w.digits-is, three)
    ]
