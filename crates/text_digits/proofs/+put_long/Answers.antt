-- `put_long` meets its contract: the number falls at each call, and its last digit is written after the others.
use Rattle.std.proofs.Common.{arith, ap, length, length-set}
use Rattle.terms.specs.Display.{decimal}
use Rattle.text_digits.proofs.Laws.{digits-one, length-tens, wrote-two, wrote-tens, wrote-length}
use Rattle.text_digits.proofs.+put_long.Goals as goal

-- ---- two digits

pub bounds-buf-at : goal.bounds-buf-at
unfolding decimal
bounds-buf-at t c =
    let tens = c.tens_of-t.ensures in
    omega (arith, length-tens c.args.x _ _ tens.0 tens.1 c.requires.le_x, ap length (digits-one 10 _ c.if-t-lt10.true), c.requires.room)

pub bounds-buf-at-then-t-lt10 : goal.bounds-buf-at-then-t-lt10
unfolding decimal
bounds-buf-at-then-t-lt10 t c =
    let tens = c.tens_of-t.ensures in
    simp length-set
    (omega (arith, length-tens c.args.x _ _ tens.0 tens.1 c.requires.le_x, ap length (digits-one 10 _ c.if-t-lt10.true), c.requires.room))

pub returns-then-t-lt10 : goal.returns-then-t-lt10
unfolding decimal
returns-then-t-lt10 t c =
    let a = c.args in
    let tens = c.tens_of-t.ensures in
    wrote-two a.buf.now a.at a.x _ _ _ _ tens.0 tens.1 c.requires.le_x c.if-t-lt10.true c.decimal_digit.ensures c.decimal_digit-then-t-lt10.ensures

-- ---- more

pub put_long-i-requires : goal.put_long-i-requires
unfolding decimal
put_long-i-requires t c =
    let tens = c.tens_of-t.ensures in (
      omega (arith, tens.0, c.requires.le_x),
      (c.if-t-lt10.false, record { room = omega (arith, length-tens c.args.x _ _ tens.0 tens.1 c.requires.le_x, c.requires.room) }),
    )

pub bounds-buf-i : goal.bounds-buf-i
unfolding decimal
bounds-buf-i t c =
    let tens = c.tens_of-t.ensures in
    let w = c.put_long-i.ensures in
    omega (arith, length-tens c.args.x _ _ tens.0 tens.1 c.requires.le_x, c.requires.room, w.next_is, wrote-length w)

pub overflow_add-result-2 : goal.overflow_add-result-2
unfolding decimal
overflow_add-result-2 t c =
    let tens = c.tens_of-t.ensures in
    let w = c.put_long-i.ensures in
    omega (arith, length-tens c.args.x _ _ tens.0 tens.1 c.requires.le_x, c.requires.room, w.next_is, wrote-length w)

pub returns : goal.returns
unfolding decimal
returns t c =
    let tens = c.tens_of-t.ensures in
    wrote-tens c.args.x _ _ _ tens.0 tens.1 c.requires.le_x c.put_long-i.ensures c.decimal_digit-2.ensures
