use native.Mathlib.Omega.{arith}
use Rattle.text_digits.proofs.Laws.{wrote_then, wrote_as, wrote-length}
use Rattle.run_registers.proofs.Digits.{digits-length, two-words}
use Rattle.run_registers.proofs.put_register.Goals as goal

pub put_digits-middle-requires : goal.put_digits-middle-requires
put_digits-middle-requires c = record { room = omega (arith, digits-length 16 c.args.high) }

pub put_digits-requires : goal.put_digits-requires
put_digits-requires c =
    let a = c.args in
    let w = c.put_digits-middle.ensures in
    record { room = omega (arith, digits-length 16 a.high, digits-length 16 a.low, w.next_is, wrote-length w) }

pub returns : goal.returns
returns c = wrote_as (two-words c.args.low c.args.high (omega arith)) (wrote_then c.put_digits-middle.ensures c.put_digits.ensures)
