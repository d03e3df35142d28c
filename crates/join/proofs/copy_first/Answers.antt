-- `copy_first`: each turn copies one word more.
use Rattle.std.proofs.Common.{arith}
use Rattle.join.proofs.Checks.{half-none, half-more}
use Rattle.join.proofs.copy_first.Goals as goal

pub loop-i-init : goal.loop-i-init
loop-i-init c = half-none c.args.first.now c.args.out.now

pub loop-i-preserved : goal.loop-i-preserved
loop-i-preserved c = half-more _ _ _ _ (omega arith) c.loop-i.invariant
