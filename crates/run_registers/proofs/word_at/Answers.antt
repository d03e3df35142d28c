use mathlib.Core.Path.{◌≡◌, sym, subst}
use Prim.Native.Nat.{ℕ}
use native.Mathlib.Omega.{arith}
use Rattle.run_registers.specs.Digits.{hex_at}
use Rattle.run_registers.proofs.Digits.{top-word, top-first, top-next, hex-none, hex-next}
use Rattle.run_registers.proofs.word_at.Goals as goal

pub loop-j-init : goal.loop-j-init
loop-j-init c = record { shows = sym (hex-none c.args.bytes.now c.args.at); fits = top-first }

pub overflow_mul-word : goal.overflow_mul-word
overflow_mul-word c = omega (arith, top-word c.loop-j.j c.loop-j-test.true)

pub overflow_add-word : goal.overflow_add-word
overflow_add-word c = omega (arith, top-word c.loop-j.j c.loop-j-test.true, c.hex_value.ensures.1)

pub loop-j-preserved : goal.loop-j-preserved
loop-j-preserved c =
    let i = c.loop-j.invariant in
    record {
      shows = hex-next c.args.bytes.now c.args.at c.loop-j.j i.shows c.hex_value.ensures.0;
      fits = top-next c.loop-j.j c.loop-j.word c.hex_value.result i.fits c.hex_value.ensures.1;
    }

pub returns : goal.returns
returns c =
    let e : c.loop-j.j ≡ 16 = omega arith in
    subst (λ (j : ℕ). c.loop-j.word ≡ hex_at c.args.bytes.now c.args.at j) e c.loop-j.invariant.shows
