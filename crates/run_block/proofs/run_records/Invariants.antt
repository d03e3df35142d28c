use Rattle.block_check.specs.Records.{records_from}
use Rattle.run_block.specs.Run.{RanBy}
use Rattle.run_block.proofs.run_records.Given as goal

-- the registers and the flag are those of the Arm run of the records so far
abbrev pub invariant-loop-j : goal.invariant-loop-j
invariant-loop-j l = RanBy (records_from l.records 0 l.j) l.initial.regs.words l.regs.words l.saturated
