-- After r turns nodes 0 to r - 1 are the first r registers.
use Rattle.block.specs.Block.{Started}
use Rattle.block.proofs.start_pool.Given as goal

abbrev pub invariant-loop-r : goal.invariant-loop-r
invariant-loop-r l = Started l.initial.pool l.pool l.r
