-- `and_ordered` gives the conjunction: a constant, an operand, or a gate.
use Rattle.gates_build.proofs.Fold.{with-false, with-either, with-other}
use Rattle.gates_build.proofs.table.and_ordered.Goals as goal

pub returns-then-a-eq0 : goal.returns-then-a-eq0
returns-then-a-eq0 c = with-false _ _ c.args.a c.args.b c.if-a-eq0.true

pub returns-then-a-b : goal.returns-then-a-b
returns-then-a-b c = with-either _ _ c.args.a c.args.b c.requires.2 c.if-a-b.true

pub returns-then-a-b-2 : goal.returns-then-a-b-2
returns-then-a-b-2 c = with-other _ _ c.args.a c.args.b c.if-a-b-2.true c.if-a-b.false
