-- After j turns pool and map are those of the first j records.
use Rattle.block_check.specs.Records.{records_from}
use Rattle.block.specs.Block.{Runs}
use Rattle.block.proofs.run_records.Given as goal

abbrev pub invariant-loop-j : goal.invariant-loop-j
invariant-loop-j l = Runs l.initial.pool l.initial.map l.pool l.map (records_from l.records 0 l.j)
