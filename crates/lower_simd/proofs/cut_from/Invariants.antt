use Rattle.lower_simd.proofs.Cutting.{Kept}
use Rattle.lower_simd.proofs.cut_from.Given as goal

-- what the cut has risen by is kept
abbrev pub invariant-loop-hi : goal.invariant-loop-hi
invariant-loop-hi l = Kept l.pool l.fn.value.0 l.hi.0 l.at l.by

-- the node number falls
abbrev pub decreases-loop-hi : goal.decreases-loop-hi
decreases-loop-hi l = l.at
