use mathlib.Core.Path.{◌≡◌, sym, ◌∙◌, subst}
use Prim.Native.Nat.{ℕ}
use native.Mathlib.Omega.{arith}
use Rattle.text_digits.proofs.Laws.{wrote-length}
use Rattle.run_registers.proofs.Starts.{Reading, reading-none, reading-more, reading-bad, reading-all, register-fits}
use Rattle.run_registers.proofs.read_start.Goals as goal

pub loop-r-init : goal.loop-r-init
loop-r-init c = reading-none c.args.bytes.now c.args.words.now

pub returns-then-not-is_register : goal.returns-then-not-is_register
returns-then-not-is_register c =
    let a = c.args in
    let g = c.gap_end-at in
    reading-bad a.bytes.now a.words.now c.loop-r.invariant g.result g.ensures.0 c.loop-r-test.true
    (sym c.is_register.ensures ∙ c.if-not-is_register.true) c.refused.result c.refused.ensures

pub put_pair-requires : goal.put_pair-requires
put_pair-requires c =
    let there = sym c.is_register.ensures ∙ c.if-not-is_register.false in
    record {
      at_in_bounds = register-fits c.args.bytes.now c.gap_end-at.result there;
      to_in_bounds = omega (arith, wrote-length c.loop-r.invariant.wrote);
    }

pub overflow_add-next : goal.overflow_add-next
overflow_add-next c = omega (arith, register-fits c.args.bytes.now c.gap_end-at.result (sym c.is_register.ensures ∙ c.if-not-is_register.false))

pub loop-r-preserved : goal.loop-r-preserved
loop-r-preserved c =
    let a = c.args in
    let there = sym c.is_register.ensures ∙ c.if-not-is_register.false in
    reading-more a.bytes.now a.words.now c.loop-r.invariant c.gap_end-at.result c.gap_end-at.ensures.0 c.loop-r-test.true there c.put_pair.ensures

pub returns : goal.returns
returns c =
    let a = c.args in
    let e : c.loop-r.r ≡ 32 = omega arith in
    reading-all a.bytes.now a.words.now c.line_after.result
    (subst (λ (k : ℕ). Reading a.bytes.now a.words.now c.loop-r.words c.loop-r.next k) e c.loop-r.invariant) c.line_after.ensures
