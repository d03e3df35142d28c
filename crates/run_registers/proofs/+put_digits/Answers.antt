-- `run_registers::put_digits` meets its contract: the digits but the last, then the last.
use Rattle.std.proofs.Common.{◌≡◌, ◌-◌, ◌/◌, ℕ, ap, ◌∙◌, arith}
use Rattle.text_digits.proofs.Laws.{wrote_none, wrote_as, wrote-length}
use Rattle.run_registers.specs.Digits.{hex_digits}
use Rattle.run_registers.proofs.Digits.{none, digits-length, wrote-last}
use Rattle.run_registers.proofs.+put_digits.Goals as goal

pub returns-then-k-eq0 : goal.returns-then-k-eq0
returns-then-k-eq0 t c =
    let e : c.args.k ≡ 0 = c.if-k-eq0.true in
    wrote_as (ap (λ (k : ℕ). hex_digits k c.args.x) e ∙ none c.args.x) (wrote_none c.args.buf.now c.args.at)

pub put_digits-i-requires : goal.put_digits-i-requires
put_digits-i-requires t c = (
  omega (arith, c.if-k-eq0.false),
  record { room = omega (arith, digits-length (c.args.k - 1) (c.args.x / 16), digits-length c.args.k c.args.x, c.requires.room) },
)

pub bounds-buf-i : goal.bounds-buf-i
bounds-buf-i t c =
    omega (
      arith,
      c.put_digits-i.ensures.next_is,
      wrote-length c.put_digits-i.ensures,
      digits-length (c.args.k - 1) (c.args.x / 16),
      digits-length c.args.k c.args.x,
      c.requires.room,
      c.if-k-eq0.false,
    )

pub overflow_add-result : goal.overflow_add-result
overflow_add-result t c =
    omega (
      arith,
      c.put_digits-i.ensures.next_is,
      wrote-length c.put_digits-i.ensures,
      digits-length (c.args.k - 1) (c.args.x / 16),
      digits-length c.args.k c.args.x,
      c.requires.room,
      c.if-k-eq0.false,
    )

pub returns : goal.returns
returns t c =
    wrote-last c.args.k c.args.x c.hex_digit.result (omega (arith, c.if-k-eq0.false)) c.put_digits-i.ensures c.hex_digit.ensures
