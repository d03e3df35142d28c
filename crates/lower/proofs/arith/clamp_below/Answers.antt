use Rattle.lower.proofs.Clamping.{below}
use Rattle.lower.proofs.arith.clamp_below.Goals as goal

pub returns : goal.returns
returns c =
    let w = c.requires.value_lt_count in
    below w.1 w.2 w.3 w.4 c.konst-most.ensures c.compare-above.ensures c.ite-at_most.ensures c.extract.ensures
