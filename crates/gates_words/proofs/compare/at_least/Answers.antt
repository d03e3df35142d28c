-- `at_least` keeps whether the number of the bits of a so far is at least that of the bits of b.
use Rattle.std.proofs.Common.{not, ltb, refl, arith}
use Rattle.gates_build.specs.Adds.{most}
use Rattle.gates_words.proofs.Folds.{fold-none, fold_more, less-step}
use Rattle.gates_words.proofs.compare.at_least.Goals as goal

pub loop-i-init : goal.loop-i-init
loop-i-init c = fold-none (λ x y. not (ltb x y)) _ _ c.args.bits.now c.args.a c.args.b refl

pub at_least_at-carry-requires : goal.at_least_at-carry-requires
at_least_at-carry-requires c =
    let t = c.loop-i-test.true in
    (omega arith, omega (arith, c.requires.1.low c.loop-i.i t), omega (arith, c.requires.2.low c.loop-i.i t), c.loop-i.invariant.under)

pub loop-i-preserved : goal.loop-i-preserved
loop-i-preserved c =
    fold_more (λ p q c. most p (not q) c) (λ x y. not (ltb x y)) less-step c.args.bits.now c.args.a c.args.b c.loop-i.invariant c.requires.1 c.requires.2
    c.loop-i-test.true c.at_least_at-carry.ensures (omega arith)
