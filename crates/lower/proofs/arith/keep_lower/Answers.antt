use mathlib.Core.Path.{refl}
use Rattle.lower.proofs.Lanes.{keep-yes, keep-no}
use Rattle.lower.proofs.arith.keep_lower.Goals as goal

pub returns-then-upper : goal.returns-then-upper
returns-then-upper c =
    let w = c.requires.lt_count in
    keep-yes c.args.lane_bits c.args.lanes w.2 w.3 c.if-upper.true c.extract_collapsing-lower.ensures c.concat.ensures

pub returns : goal.returns
returns c = keep-no c.args.lane_bits c.args.lanes c.if-upper.false c.requires.lt_count.0 refl refl
