-- Each turn numbers a node or goes to a lower one, so that less work is left.
use Rattle.canonical_order.specs.Walk.{Walking, work}
use Rattle.canonical_order.proofs.walk.Given as goal

abbrev pub invariant-loop-s : goal.invariant-loop-s
invariant-loop-s l = Walking l.pool l.class l.root.0 l.number l.order l.s.count l.stack l.s.depth

abbrev pub decreases-loop-s : goal.decreases-loop-s
decreases-loop-s l = work l.root.0 l.number l.stack l.s.depth
