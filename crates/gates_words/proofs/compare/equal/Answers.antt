-- `equal` keeps whether the bits so far are the same.
use Rattle.std.proofs.Common.{not, ◌&&◌, eqb, refl, arith}
use Rattle.gates_build.specs.Adds.{differ}
use Rattle.gates_words.proofs.Folds.{fold-none, fold_more, equal-step}
use Rattle.gates_words.proofs.compare.equal.Goals as goal

pub loop-i-init : goal.loop-i-init
loop-i-init c = fold-none eqb _ _ c.args.bits.now c.args.a c.args.b refl

pub same_at-same-requires : goal.same_at-same-requires
same_at-same-requires c =
    let t = c.loop-i-test.true in
    (omega arith, omega (arith, c.requires.1.low c.loop-i.i t), omega (arith, c.requires.2.low c.loop-i.i t), c.loop-i.invariant.under)

pub loop-i-preserved : goal.loop-i-preserved
loop-i-preserved c =
    fold_more (λ p q s. s && not (differ p q)) eqb equal-step c.args.bits.now c.args.a c.args.b c.loop-i.invariant c.requires.1 c.requires.2
    c.loop-i-test.true c.same_at-same.ensures (omega arith)
