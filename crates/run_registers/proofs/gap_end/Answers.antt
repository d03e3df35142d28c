use mathlib.Core.Path.{◌≡◌, sym, ◌∙◌}
use native.Mathlib.Omega.{arith}
use lib.ListN.{length}
use Rattle.run_registers.proofs.Starts.{gap-over, gap-none, gap_more}
use Rattle.run_registers.proofs.gap_end.Goals as goal

pub returns-then-not-is_gap : goal.returns-then-not-is_gap
returns-then-not-is_gap c =
    let a = c.args in
    (sym (gap-none a.newlines a.bytes.now c.loop-i.i c.loop-i-test.true (sym c.is_gap.ensures ∙ c.if-not-is_gap.true)) ∙ c.loop-i.invariant, omega arith)

pub loop-i-preserved : goal.loop-i-preserved
loop-i-preserved c =
    let a = c.args in
    gap_more a.newlines a.bytes.now c.loop-i.i c.loop-i-test.true (sym c.is_gap.ensures ∙ c.if-not-is_gap.false) ∙ c.loop-i.invariant

pub returns : goal.returns
returns c =
    let a = c.args in
    let e : length a.bytes.now ≡ c.loop-i.i = omega arith in
    (e ∙ sym (gap-over a.newlines a.bytes.now c.loop-i.i c.loop-i-test.false) ∙ c.loop-i.invariant, omega arith)
