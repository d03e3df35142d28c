-- exact_half: the sum of two lanes, halved, rounding or not.
use native.Mathlib.Omega.{arith}
use Prim.Native.Nat.{◌+◌}
use Rattle.facts.proofs.Numbers.{small}
use Rattle.lower_exact.proofs.Exactly.{then2}
use Rattle.lower_exact.proofs.exact_half.Goals as goal

pub shift_down-requires-clause-value_lt_count : goal.shift_down-requires-clause-value_lt_count
shift_down-requires-clause-value_lt_count c =
    omega (arith, c.requires, c.join-sum.ensures.sized, small 1 1 (c.args.lane_bits + 1) (omega arith) (omega arith))

pub returns : goal.returns
returns c = then2 c.join-sum.ensures c.shift_down.ensures
