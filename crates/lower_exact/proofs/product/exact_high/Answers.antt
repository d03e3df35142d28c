-- exact_high: the doubled product, shifted down by a lane's bits, rounding or not.
use native.Mathlib.Omega.{arith}
use Rattle.facts.proofs.Numbers.{small, half-fits}
use Rattle.lower_exact.proofs.Exactly.{high}
use Rattle.lower_exact.proofs.product.exact_high.Goals as goal

pub shift_down-requires-clause-value_lt_count : goal.shift_down-requires-clause-value_lt_count
shift_down-requires-clause-value_lt_count c =
    let n = c.args.lane_bits in (
      c.double-doubled.ensures.sized.under,
      omega (arith, c.requires),
      omega (arith, c.requires),
      rw c.power-half.ensures (half-fits n _ c.requires.a_lt_count.2 (omega (arith, c.requires))),
      small n n _ (omega arith) (omega (arith, c.requires)),
    )

pub returns : goal.returns
returns c =
    let a = c.args in
    high a.lane_bits a.rounding c.power-half.ensures c.double-doubled.ensures c.shift_down.ensures
