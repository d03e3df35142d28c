-- The loop of `records_refusal`: the records before the place are accepted.
use Rattle.block_check.proofs.Refusals.{Passed}
use Rattle.block_check.proofs.records_refusal.Given as goal

abbrev pub invariant-loop-position : goal.invariant-loop-position
invariant-loop-position l = Passed l.records l.position
