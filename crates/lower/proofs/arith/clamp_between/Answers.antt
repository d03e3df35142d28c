use Rattle.lower.proofs.Clamping.{between}
use Rattle.lower.proofs.arith.clamp_between.Goals as goal

pub returns : goal.returns
returns c =
    let w = c.requires.value_lt_count in
    let b = c.requires.hi_bound in
    between w.1 w.2 w.3 b.0 b.1 c.konst-most.ensures c.compare-above.ensures c.ite-at_most.ensures c.konst-least.ensures c.compare-below.ensures
    c.ite-clamped.ensures c.extract.ensures
