-- After j turns j records are lowered, each with its bit.
use Rattle.block_check.specs.Records.{records_from}
use Rattle.saturation_run.specs.Run.{FlagRuns}
use Rattle.saturation_run.proofs.run_flagged.Given as goal

abbrev pub invariant-loop-j : goal.invariant-loop-j
invariant-loop-j l = FlagRuns l.initial.pool l.initial.at l.pool l.at (records_from l.records 0 l.j)
