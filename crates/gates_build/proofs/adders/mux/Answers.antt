-- `mux` is one of two conjunctions.
use Rattle.gates_build.proofs.Runs.{same_chosen, mux-made}
use Rattle.gates_build.proofs.adders.mux.Goals as goal

pub returns-then-a-b : goal.returns-then-a-b
returns-then-a-b c = same_chosen c.args.c c.requires.2 c.if-a-b.true

pub returns : goal.returns
returns c =
    mux-made c.requires.1 c.requires.2 c.requires.3 c.and-then.ensures c.negate.ensures c.and-other.ensures c.or.ensures
