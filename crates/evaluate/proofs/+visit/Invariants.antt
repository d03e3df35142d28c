-- A visit ends: the node's number falls at every call.
use Rattle.evaluate.proofs.+visit.Given as goal

abbrev pub decreases-visit : goal.decreases-visit
decreases-visit l = l.n.0
