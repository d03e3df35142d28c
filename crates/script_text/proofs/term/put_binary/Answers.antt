-- `put_binary` writes `binary`: at k the digits of the k low bits are still to be written.
use Rattle.std.proofs.Common.{arith, sym, ap, ◌≡◌, ◌∙◌, ℕ}
use lib.Seq.{sets}
use Rattle.pool.specs.Node.{wide}
use Rattle.script_meaning.specs.Script.{binary}
use Rattle.script_meaning.proofs.Numbers.{binary-length}
use Rattle.script_text.proofs.Bits.{next_bit}
use Rattle.script_text.proofs.term.put_binary.Goals as goal

pub bounds-buf-i : goal.bounds-buf-i
bounds-buf-i c =
    let a = c.args in
    omega (arith, c.requires.room.room, binary-length a.width (wide a.low a.high))

pub loop-k-preserved : goal.loop-k-preserved
loop-k-preserved c =
    let a = c.args in
    let l = c.loop-k in
    record {
      rest = next_bit l.buf l.i l.k (wide a.low a.high) c.bit.result c.loop-k-test.true c.bit.ensures ∙ l.invariant.rest;
      place = omega arith;
    }

pub returns : goal.returns
unfolding binary
returns c =
    let a = c.args in
    let l = c.loop-k in
    let none : l.k ≡ 0 = omega arith in
    record {
      next_is = omega (arith, binary-length a.width (wide a.low a.high));
      after_is = ap (λ (k : ℕ). sets l.buf l.i (binary k (wide a.low a.high))) (sym none) ∙ l.invariant.rest;
    }
