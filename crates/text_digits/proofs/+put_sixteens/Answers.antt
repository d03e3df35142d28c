-- `put_sixteens` meets its contract: the number falls at each call, and its last digit is written after the others.
use Rattle.std.proofs.Common.{arith, sym, ◌∙◌, subst, ℕ, ◌+◌, length-set}
use lib.ListN.{set}
use borrow.Author.Tests.{ltb-true, ltb-false}
use Rattle.terms.specs.Display.{hexadecimal}
use Rattle.pool.specs.Node.{wide}
use Rattle.text_digits.specs.Writing.{Wrote}
use Rattle.text_digits.proofs.Laws.{digits, words-less, length-digit, length-words, wrote-digit, wrote-words, wrote-length}
use Rattle.text_digits.proofs.+put_sixteens.Goals as goal

-- ---- two digits

pub bounds-buf-at : goal.bounds-buf-at
unfolding hexadecimal
bounds-buf-at t c =
    let a = c.args in
    let front = ltb-true _ 16 (sym c.one_digit.ensures ∙ c.if-one_digit.true) in
    omega (arith, length-words a.low a.high c.requires.bound, length-digit _ _ front, c.requires.room)

pub bounds-buf-at-then-one_digit : goal.bounds-buf-at-then-one_digit
unfolding hexadecimal
bounds-buf-at-then-one_digit t c =
    let a = c.args in
    let front = ltb-true _ 16 (sym c.one_digit.ensures ∙ c.if-one_digit.true) in
    simp length-set (omega (arith, length-words a.low a.high c.requires.bound, length-digit _ _ front, c.requires.room))

pub returns-then-one_digit : goal.returns-then-one_digit
unfolding hexadecimal
returns-then-one_digit t c =
    let a = c.args in
    let front = ltb-true _ 16 (sym c.one_digit.ensures ∙ c.if-one_digit.true) in
    let after = set (set a.buf.now a.at c.hex_digit.result) (a.at + 1) c.hex_digit-then-one_digit.result in
    subst (λ (j : ℕ). Wrote a.buf.now a.at (digits 16 (wide a.low a.high)) j after) (omega arith)
    (wrote-words a.low a.high _ c.requires.bound (wrote-digit _ _ _ front c.hex_digit.ensures) c.hex_digit-then-one_digit.ensures)

-- ---- more

pub put_sixteens-i-requires : goal.put_sixteens-i-requires
unfolding hexadecimal
put_sixteens-i-requires t c =
    let a = c.args in (
      omega (arith, words-less a.low a.high c.requires.bound),
      (
        ltb-false _ 16 (sym c.one_digit.ensures ∙ c.if-one_digit.false),
        record { room = omega (arith, length-words a.low a.high c.requires.bound, c.requires.room) },
      ),
    )

pub bounds-buf-i : goal.bounds-buf-i
unfolding hexadecimal
bounds-buf-i t c =
    let w = c.put_sixteens-i.ensures in
    omega (arith, length-words c.args.low c.args.high c.requires.bound, c.requires.room, w.next_is, wrote-length w)

pub overflow_add-result-2 : goal.overflow_add-result-2
unfolding hexadecimal
overflow_add-result-2 t c =
    let w = c.put_sixteens-i.ensures in
    omega (arith, length-words c.args.low c.args.high c.requires.bound, c.requires.room, w.next_is, wrote-length w)

pub returns : goal.returns
unfolding hexadecimal
returns t c = wrote-words c.args.low c.args.high _ c.requires.bound c.put_sixteens-i.ensures c.hex_digit-2.ensures
