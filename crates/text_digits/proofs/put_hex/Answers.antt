-- `put_hex` meets its contract: one digit, one word or two.
use Rattle.std.proofs.Common.{arith, sym, ◌∙◌}
use borrow.Author.Tests.{ltb-true}
use Rattle.terms.specs.Display.{hexadecimal}
use Rattle.text_digits.proofs.Laws.{length-digit, wrote-digit}
use Rattle.text_digits.proofs.put_hex.Goals as goal

pub bounds-buf-at : goal.bounds-buf-at
unfolding hexadecimal
bounds-buf-at c = omega (arith, length-digit _ _ (ltb-true _ 16 (sym c.one_digit.ensures ∙ c.if-one_digit.true)), c.requires)

pub returns-then-one_digit : goal.returns-then-one_digit
unfolding hexadecimal
returns-then-one_digit c = wrote-digit _ _ _ (ltb-true _ 16 (sym c.one_digit.ensures ∙ c.if-one_digit.true)) c.hex_digit.ensures
