use native.Mathlib.Omega.{arith}
use native.Mathlib.Nat.{le_refl}
use Rattle.trees.specs.Trees.{zeros_at}
use Rattle.lower_bitwise_unary_lane.proofs.Layering.{bits_none, bits-more, bits-all, zeros_to, zeros-none, zeros-more}
use Rattle.lower_bitwise_unary_lane.proofs.counts.leading_zeros.Goals as goal

pub loop-i-init : goal.loop-i-init
loop-i-init c =
    let n = c.args.bits in
    let w = c.requires.value_lt_count in
    bits_none 5 (zeros_to n) n w.1 w.2 (le_refl _) (zeros-none n) c.konst-acc.ensures

pub loop-i-preserved : goal.loop-i-preserved
loop-i-preserved c =
    let n = c.args.bits in
    bits-more 5 (zeros_to n) (zeros_at n) (zeros-more n c.loop-i.i) c.loop-i.invariant c.zeros_at-acc.ensures

pub returns : goal.returns
returns c = bits-all 5 (zeros_to c.args.bits) c.requires.value_lt_count.1 (omega (arith, c.loop-i-test.false, c.loop-i.auto.i-end)) c.loop-i.invariant
