-- `copy_first`: before turn i the first i words are the first pool's, and the others are as they were.
use Rattle.join.specs.Join.{Half}
use Rattle.join.proofs.copy_first.Given as goal

abbrev pub invariant-loop-i : goal.invariant-loop-i
invariant-loop-i l = Half l.first l.initial.out l.out l.i
