use native.Mathlib.Omega.{arith}
use mathlib.Core.Path.{refl}
use Rattle.lower.proofs.Lanes.{lanes-first, lanes-more}
use Rattle.lower_bitwise_unary_lane.proofs.Bitwise.{reversed-bit, reversed-all}
use Rattle.lower_bitwise_unary_lane.proofs.counts.reverse_bits.Goals as goal

pub loop-i-init : goal.loop-i-init
loop-i-init c = λ wa h.
    let n = c.args.lane_bits in
    lanes-first _ {m = 2} refl (omega arith) (reversed-bit wa c.args.base.0 n 0 c.requires.value_lt_count.1 h (omega arith) c.extract-acc.ensures)

pub loop-i-preserved : goal.loop-i-preserved
loop-i-preserved c = λ wa h.
    let n = c.args.lane_bits in
    let more = c.loop-i-test.true in
    lanes-more _ (omega arith) (omega (arith, c.loop-i.auto)) more (omega (arith, c.requires.value_lt_count.2)) (omega arith) (c.loop-i.invariant wa h)
    (reversed-bit wa c.args.base.0 n c.loop-i.i more h (omega arith) c.extract-bit.ensures) c.concat_lanes-acc.ensures

pub returns : goal.returns
returns c =
    let some = c.requires.value_lt_count.1 in
    reversed-all some (omega (arith, c.loop-i-test.false, c.loop-i.auto, some)) c.loop-i.invariant
