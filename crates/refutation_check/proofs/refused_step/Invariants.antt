-- refused_step: the steps before k are accepted, with places, and no mark is of step k
use Rattle.std.proofs.Common.{◌-◌, length}
use Rattle.refutation_check.proofs.Going.{Going}
use Rattle.refutation_check.proofs.refused_step.Given as goal

abbrev pub invariant-loop-next : goal.invariant-loop-next
invariant-loop-next l = Going l.graph l.count l.l l.words l.starts l.k l.at l.marks

abbrev pub decreases-loop-next : goal.decreases-loop-next
decreases-loop-next l = length l.words - l.at
