use mathlib.Core.Path.{refl}
use Rattle.lower.proofs.Clamping.{plus-yes, plus-no}
use Rattle.lower.proofs.arith.plus_if.Goals as goal

pub returns-then-rounding : goal.returns-then-rounding
returns-then-rounding c =
    let w = c.requires.value_lt_count in
    plus-yes w.1 w.2 w.3 c.if-rounding.true c.konst-half.ensures c.bv.ensures

pub returns : goal.returns
returns c = plus-no c.args.constant c.args.wide c.if-rounding.false c.requires.value_lt_count.0 refl refl
