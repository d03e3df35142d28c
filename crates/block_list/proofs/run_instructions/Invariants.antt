-- The loop of `run_instructions`: pool and map are those of the records so far.
use Rattle.block_list.proofs.Listed.{Ran}
use Rattle.block_list.proofs.run_instructions.Given as goal

abbrev pub invariant-loop-r : goal.invariant-loop-r
invariant-loop-r l = Ran l.fn.pool l.fn.map l.records l.r-index l.pool l.map
