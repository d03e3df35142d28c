-- At n the nodes below n have their classes.
use Rattle.canonical_classes.specs.Class.{Laid, Kept, slots_of}
use Rattle.canonical_classes.proofs.classes.Given as goal

abbrev pub invariant-loop-n : goal.invariant-loop-n
invariant-loop-n l = Laid l.first l.second l.ways × Kept l.pool l.n l.class (slots_of l.first l.second l.ways)
