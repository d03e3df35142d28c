-- `put_tens` meets its contract: two digits, three that begin with 1, or more.
use Rattle.std.proofs.Common.{arith, ap, length, length-set}
use Rattle.terms.specs.Display.{decimal}
use Rattle.text_digits.proofs.Laws.{wrote_as, wrote-byte, wrote_then}
use Rattle.text_digits.proofs.TwoDigits.{two_digits, three-digits}
use Rattle.text_digits.proofs.put_tens.Goals as goal

-- ---- two digits

pub put_pair-requires-clause-at_in_bounds : goal.put_pair-requires-clause-at_in_bounds
unfolding decimal
put_pair-requires-clause-at_in_bounds c = omega (arith, ap length (two_digits c.args.x c.requires.le_x c.if-x-lt100.true), c.requires.room)

pub returns-then-x-lt100 : goal.returns-then-x-lt100
unfolding decimal
returns-then-x-lt100 c = wrote_as (two_digits c.args.x c.requires.le_x c.if-x-lt100.true) c.put_pair.ensures

-- ---- three digits

pub bounds-buf-at : goal.bounds-buf-at
unfolding decimal
bounds-buf-at c = omega (arith, ap length (three-digits c.args.x c.if-x-lt100.false c.if-x-lt200.true), c.requires.room)

pub put_pair-requires-then-x-lt200-clause-at_in_bounds : goal.put_pair-requires-then-x-lt200-clause-at_in_bounds
unfolding decimal
put_pair-requires-then-x-lt200-clause-at_in_bounds c =
    simp length-set (omega (arith, ap length (three-digits c.args.x c.if-x-lt100.false c.if-x-lt200.true), c.requires.room))

pub returns-then-x-lt200 : goal.returns-then-x-lt200
unfolding decimal
returns-then-x-lt200 c =
    wrote_as (three-digits c.args.x c.if-x-lt100.false c.if-x-lt200.true)
    (wrote_then (wrote-byte c.args.buf.now c.args.at 49) c.put_pair-then-x-lt200.ensures)
