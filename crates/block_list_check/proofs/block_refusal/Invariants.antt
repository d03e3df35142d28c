-- The loop of `block_refusal`: the records before the place are accepted.
use Rattle.pool.specs.Node.{places_in}
use Rattle.block_list_check.proofs.Listed.{Passed}
use Rattle.block_list_check.proofs.block_refusal.Given as goal

abbrev pub invariant-loop-position : goal.invariant-loop-position
invariant-loop-position l = Passed (places_in l.words) l.records l.position
