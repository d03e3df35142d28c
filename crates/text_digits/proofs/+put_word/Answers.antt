-- `put_word` meets its contract: one digit, two, or two after those of the number over 256.
use Rattle.std.proofs.Common.{arith, ap, length, length-append}
use Rattle.terms.specs.Display.{hexadecimal}
use Rattle.text_digits.proofs.Laws.{digits-one, wrote_one, wrote_as, wrote_then, wrote-length}
use Rattle.text_digits.proofs.TwoDigits.{two-sixteens, byte_more}
use Rattle.text_digits.proofs.+put_word.Goals as goal

-- ---- one digit

pub bounds-buf-at : goal.bounds-buf-at
unfolding hexadecimal
bounds-buf-at t c = omega (arith, ap length (digits-one 16 c.args.x c.if-x-lt16.true), c.requires)

pub returns-then-x-lt16 : goal.returns-then-x-lt16
unfolding hexadecimal
returns-then-x-lt16 t c = wrote_one 16 c.args.buf.now c.args.at c.args.x _ c.if-x-lt16.true c.hex_digit.ensures

-- ---- two digits

pub put_byte-requires-clause-at_in_bounds : goal.put_byte-requires-clause-at_in_bounds
unfolding hexadecimal
put_byte-requires-clause-at_in_bounds t c = omega (arith, ap length (two-sixteens c.args.x c.if-x-lt16.false c.if-x-lt256.true), c.requires)

pub returns-then-x-lt256 : goal.returns-then-x-lt256
unfolding hexadecimal
returns-then-x-lt256 t c = wrote_as (two-sixteens c.args.x c.if-x-lt16.false c.if-x-lt256.true) c.put_byte.ensures

-- ---- more

pub put_word-i-requires : goal.put_word-i-requires
unfolding hexadecimal
put_word-i-requires t c =
    let longer = simp length-append at (ap length (byte_more c.args.x c.if-x-lt256.false)) in
    (omega arith, record { room = omega (arith, longer, c.requires) })

pub put_byte-requires-2-clause-at_in_bounds : goal.put_byte-requires-2-clause-at_in_bounds
unfolding hexadecimal
put_byte-requires-2-clause-at_in_bounds t c =
    let longer = simp length-append at (ap length (byte_more c.args.x c.if-x-lt256.false)) in
    let w = c.put_word-i.ensures in
    omega (arith, longer, c.requires, w.next_is, wrote-length w)

pub returns : goal.returns
unfolding hexadecimal
returns t c = wrote_as (byte_more c.args.x c.if-x-lt256.false) (wrote_then c.put_word-i.ensures c.put_byte-2.ensures)
