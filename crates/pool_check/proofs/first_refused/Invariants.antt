-- the loop has passed the nodes below n
use mathlib.Core.Path.{◌≡◌}
use mathlib.Core.Bool.{true}
use Rattle.pool.specs.Rules.{ok_pool}
use Rattle.pool_check.specs.Plain.{plain_from}
use Rattle.pool_check.proofs.first_refused.Given as goal

abbrev pub invariant-loop-n : goal.invariant-loop-n
invariant-loop-n l = (ok_pool l.pool l.n ≡ true) × (plain_from l.pool l.plain.0 l.n ≡ true)
