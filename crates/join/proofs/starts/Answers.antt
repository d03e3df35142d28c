use Rattle.std.proofs.Common.{◌≡◌, sym, ◌∙◌, arith}
use Rattle.join.proofs.Checks.{rules-none, rules-more, rules-bad, not-ok, not-var, all-good}
use Rattle.join.proofs.starts.Goals as goal

pub returns-then-not-check_plain : goal.returns-then-not-check_plain
returns-then-not-check_plain c = let a = c.args in not-ok a.pool.now a.count (sym c.check_plain.ensures ∙ c.if-not-check_plain.true)

pub loop-n-init : goal.loop-n-init
loop-n-init c = rules-none _

pub returns-then-not-is_register : goal.returns-then-not-is_register
returns-then-not-is_register c =
    let a = c.args in
    not-var a.pool.now a.count
    (rules-bad a.pool.now c.loop-n.n a.count (omega (arith, c.if-count-lt32.false, c.loop-n-test.true)) (sym c.is_register.ensures ∙ c.if-not-is_register.true))

pub loop-n-preserved : goal.loop-n-preserved
loop-n-preserved c = rules-more _ _ c.loop-n.invariant (sym c.is_register.ensures ∙ c.if-not-is_register.false)

pub returns : goal.returns
returns c =
    let a = c.args in
    let e : c.loop-n.n ≡ 32 = omega (arith, c.loop-n.auto, c.loop-n-test.false) in
    all-good a.pool.now a.count (sym c.check_plain.ensures ∙ c.if-not-check_plain.false) c.if-count-lt32.false (rw e at c.loop-n.invariant)
