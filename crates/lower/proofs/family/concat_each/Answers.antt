use native.Mathlib.Omega.{arith}
use mathlib.Core.Path.{subst}
use Rattle.std.proofs.Common.{◌≡◌, ℕ}
use Rattle.lower.proofs.Lanes.{MakesTo, lanes-first, lanes-more}
use Rattle.lower.proofs.family.concat_each.Goals as goal

pub loop-i-init : goal.loop-i-init
loop-i-init g c = lanes-first _ c.first.ensures (omega arith) c.make-all.ensures

pub loop-i-preserved : goal.loop-i-preserved
loop-i-preserved g c =
    let fit = c.requires.ready.1 in
    lanes-more (g.L.Lanes.plan c.args.family.now).tree fit.1 (omega (arith, c.loop-i.auto)) (omega (arith, c.loop-i-test.true, c.lanes-i-end.ensures)) fit.2
    (omega arith) c.loop-i.invariant c.make-lane.ensures c.concat_lanes-all.ensures

pub returns : goal.returns
returns g c =
    let p = g.L.Lanes.plan c.args.family.now in
    let all : c.loop-i.i ≡ p.lanes = omega (arith, c.loop-i-test.false, c.lanes-i-end.ensures, c.loop-i.auto, c.requires.ready.1.0) in
    subst (λ (i : ℕ). MakesTo c.args.pool.now c.args.count c.loop-i.pool c.loop-i.all p i) all c.loop-i.invariant
