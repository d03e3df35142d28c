-- `absorb` gives two literals with the same conjunction, by the laws of absorption.
use Rattle.gates_build.proofs.Reduce.{either, either-of, kept, has-it, has-negation, follows, leaves-right, leaves-left}
use Rattle.gates_build.proofs.operands.absorb.Goals as goal

pub returns-then-a-x : goal.returns-then-a-x
returns-then-a-x c =
    has-it c.if-b-eq0.true (either c.args.a c.args.x c.args.y c.if-a-x.true) c.ordered.ensures

pub returns-then-a-not_x : goal.returns-then-a-not_x
returns-then-a-not_x c =
    has-negation c.if-b-eq0.true (either-of c.args.a c.negate-not_x.ensures c.negate-not_y.ensures c.if-a-not_x.true)
    c.ordered-then-a-not_x.ensures

pub returns-then-b-eq0 : goal.returns-then-b-eq0
returns-then-b-eq0 c = kept c.requires

pub returns-then-a-not_x-2 : goal.returns-then-a-not_x-2
returns-then-a-not_x-2 c =
    follows c.if-b-eq0.false (either-of c.args.a c.negate-not_x.ensures c.negate-not_y.ensures c.if-a-not_x-2.true) c.ordered-then-a-not_x-2.ensures

pub returns-then-a-x-2 : goal.returns-then-a-x-2
returns-then-a-x-2 c =
    leaves-right c.if-b-eq0.false c.if-a-x-2.true (rw c.negate-not_y.ensures at c.ordered-then-a-x-2.ensures)

pub returns-then-a-y : goal.returns-then-a-y
returns-then-a-y c =
    leaves-left c.if-b-eq0.false c.if-a-y.true (rw c.negate-not_x.ensures at c.ordered-then-a-y.ensures)

pub returns : goal.returns
returns c = kept c.requires
