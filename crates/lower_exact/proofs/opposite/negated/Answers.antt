-- negated: 0 - a, or that if a is below 0.
use Rattle.lower_exact.proofs.Exactly.{opposite, absolute}
use Rattle.lower_exact.proofs.opposite.negated.Goals as goal

pub returns-then-negate : goal.returns-then-negate
returns-then-negate c =
    let d = c in
    let p = d.requires.value_lt_count in
    opposite p.1 p.2 c.if-negate.true d.konst-zero.ensures d.bv-opposite.ensures

pub returns : goal.returns
returns c =
    let choice = c in
    let below = c in
    let i = c in
    let d = c in
    let p = d.requires.value_lt_count in
    absolute p.1 p.2 i.if-negate.false d.konst-zero.ensures d.bv-opposite.ensures below.compare-negative.ensures choice.ite.ensures
