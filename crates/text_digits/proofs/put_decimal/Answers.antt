-- `put_decimal` meets its contract: one digit here, more in `put_tens`.
use Rattle.std.proofs.Common.{arith, ap, length}
use Rattle.terms.specs.Display.{decimal}
use Rattle.text_digits.proofs.Laws.{digits-one, wrote_one}
use Rattle.text_digits.proofs.put_decimal.Goals as goal

pub bounds-buf-at : goal.bounds-buf-at
unfolding decimal
bounds-buf-at c = omega (arith, ap length (digits-one 10 c.args.x c.if-x-lt10.true), c.requires)

pub returns-then-x-lt10 : goal.returns-then-x-lt10
unfolding decimal
returns-then-x-lt10 c = wrote_one 10 c.args.buf.now c.args.at c.args.x _ c.if-x-lt10.true c.decimal_digit.ensures
