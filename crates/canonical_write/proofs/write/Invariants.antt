-- At j the first j nodes of the canonical pool are written, and no word past them.
use Rattle.canonical_write.specs.Canonise.{Written}
use Rattle.canonical_write.proofs.write.Given as goal

abbrev pub invariant-loop-j : goal.invariant-loop-j
invariant-loop-j l = Written l.pool l.root.0 l.j l.initial.out l.out
