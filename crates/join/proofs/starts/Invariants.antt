-- starts: the first n nodes keep `var_rule`
use Rattle.std.proofs.Common.{◌≡◌, true}
use Rattle.join.specs.Starts.{var_rules}
use Rattle.join.proofs.starts.Given as goal

abbrev pub invariant-loop-n : goal.invariant-loop-n
invariant-loop-n l = var_rules l.pool l.n ≡ true
