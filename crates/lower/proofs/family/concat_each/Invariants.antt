use Rattle.lower.proofs.Lanes.{MakesTo}
use Rattle.lower.proofs.family.concat_each.Given as goal

-- of the lanes, i are made
abbrev pub invariant-loop-i : goal.invariant-loop-i
invariant-loop-i g l = MakesTo l.fn.pool l.fn.count l.pool l.all (g.L.Lanes.plan l.fn.family) l.i
