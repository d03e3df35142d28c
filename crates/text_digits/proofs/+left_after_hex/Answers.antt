-- `left_after_hex` meets its contract: the number falls at each call, by one digit.
use Rattle.std.proofs.Common.{arith, sym, ◌∙◌}
use borrow.Author.Tests.{ltb-true, ltb-false}
use Rattle.terms.specs.Display.{hexadecimal}
use Rattle.text_digits.proofs.Laws.{words-less, length-digit, length-words}
use Rattle.text_digits.proofs.+left_after_hex.Goals as goal

pub returns-then-one_digit : goal.returns-then-one_digit
unfolding hexadecimal
returns-then-one_digit t c =
    let a = c.args in
    omega (arith, c.saturating_sub-c.ensures, length-digit a.low a.high (ltb-true _ 16 (sym c.one_digit.ensures ∙ c.if-one_digit.true)))

pub left_after_hex-requires : goal.left_after_hex-requires
left_after_hex-requires t c =
    let a = c.args in
    (omega (arith, words-less a.low a.high (ltb-false _ 16 (sym c.one_digit.ensures ∙ c.if-one_digit.false))), tt)

pub returns : goal.returns
unfolding hexadecimal
returns t c =
    let a = c.args in
    omega (arith, length-words a.low a.high (ltb-false _ 16 (sym c.one_digit.ensures ∙ c.if-one_digit.false)))
