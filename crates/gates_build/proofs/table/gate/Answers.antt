-- `gate` gives the conjunction of its literals: the gate that the table led to has just these, or a new one gets them.
use Rattle.std.proofs.Common.{arith}
use Rattle.gates.proofs.Laws.{gate-builds}
use Rattle.gates_build.proofs.Fold.{with-found}
use Rattle.gates_build.proofs.table.gate.Goals as goal

pub returns-in-Some : goal.returns-in-Some
returns-in-Some c =
    with-found _ _ c.args.a c.args.b c.in-Some.found (omega arith) (omega arith) (omega arith) c.in-Some.ensures.0 c.in-Some.ensures.1

pub returns : goal.returns
returns c = gate-builds c.args.graph.now c.args.count c.args.a c.args.b c.requires.0 (omega arith) c.requires.2
