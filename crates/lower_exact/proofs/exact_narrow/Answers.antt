-- exact_narrow: a wide lane, shifted down at one bit more, rounding or not.
use native.Mathlib.Omega.{arith}
use Prim.Native.Nat.{◌+◌, ◌*◌}
use Rattle.facts.proofs.Numbers.{small, half-fits}
use Rattle.lower_exact.proofs.Exactly.{narrow}
use Rattle.lower_exact.proofs.exact_narrow.Goals as goal

pub shift_down-requires-clause-value_lt_count : goal.shift_down-requires-clause-value_lt_count
shift_down-requires-clause-value_lt_count c =
    let p = c.requires.a_lt_count in
    let n = c.args.lane_bits in
    omega (
      arith,
      c.requires,
      c.extend-value.ensures.sized,
      c.power-half.ensures,
      half-fits c.args.shift (n * 2 + 1) p.1 (omega (arith, c.requires)),
      small n c.args.shift (n * 2 + 1) p.2 (omega arith),
    )

pub returns : goal.returns
returns c =
    let a = c.args in
    narrow a.shift a.lane_bits a.signed a.rounding a.to (omega (arith, c.requires)) c.requires.a_lt_count.3 c.power-half.ensures
    c.extend-value.ensures c.shift_down.ensures
