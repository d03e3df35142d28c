use native.Mathlib.Omega.{arith}
use Rattle.trees.specs.Trees.{count_bit_at}
use Rattle.lower_bitwise_unary_lane.proofs.Layering.{bits_none, bits-more, bits-all, count_to, count_none, count-more}
use Rattle.lower_bitwise_unary_lane.proofs.counts.population_count.Goals as goal

pub loop-i-init : goal.loop-i-init
loop-i-init c =
    let n = c.args.lane_bits in
    let w = c.requires.value_lt_count in
    bits_none 3 (count_to n) 0 w.1 w.2 (omega arith) (count_none n) c.konst-acc.ensures

pub loop-i-preserved : goal.loop-i-preserved
loop-i-preserved c =
    let n = c.args.lane_bits in
    bits-more 3 (count_to n) (count_bit_at n) (count-more n c.loop-i.i) c.loop-i.invariant c.count_at-acc.ensures

pub returns : goal.returns
returns c =
    bits-all 3 (count_to c.args.lane_bits) c.requires.value_lt_count.1 (omega (arith, c.loop-i-test.false, c.loop-i.auto.i-end)) c.loop-i.invariant
