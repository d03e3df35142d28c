-- `add` keeps the low bits of the sum and the carry out of them.
use Rattle.std.proofs.Common.{refl, arith}
use Rattle.gates_words.proofs.Loops.{place-low}
use Rattle.gates_words.proofs.Adding.{adds_none, adds-more}
use Rattle.gates_words.proofs.adder.add.Goals as goal

pub loop-i-init : goal.loop-i-init
loop-i-init c = adds_none _ _ _ _ c.args.a c.args.b c.args.out c.requires.4 refl

pub add_at-sum-requires-clause-under : goal.add_at-sum-requires-clause-under
add_at-sum-requires-clause-under c =
    let r = c.loop-i.invariant.run in
    let t = c.loop-i-test.true in
    (place-low r c.requires.2 t, place-low r c.requires.3 t, c.loop-i.invariant.carry_under)

pub loop-i-preserved : goal.loop-i-preserved
loop-i-preserved c =
    adds-more c.loop-i.invariant (omega arith) c.loop-i-test.true c.requires.2 c.requires.3 c.add_at-sum.ensures
