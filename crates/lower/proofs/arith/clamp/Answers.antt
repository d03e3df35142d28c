use native.Mathlib.Omega.{arith}
use lib.Pow.{pow_pos}
use mathlib.Core.Path.{refl}
use Prim.Native.Nat.{◌-◌}
use Rattle.lower.proofs.Clamping.{clamp-signed, clamp-unsigned, clamp-to-unsigned, low_fits, high_fits}
use Rattle.lower.proofs.arith.clamp.Goals as goal

pub clamp_between-requires-clause-hi_bound : goal.clamp_between-requires-clause-hi_bound
clamp_between-requires-clause-hi_bound c =
    let a = c.args in
    let b = a.narrow - 1 in
    omega (arith, c.power.ensures, c.minus_power-low.ensures, low_fits a.wide b, high_fits a.wide b (omega (arith, c.requires)))

pub clamp_below-requires-clause-value_lt_count : goal.clamp_below-requires-clause-value_lt_count
clamp_below-requires-clause-value_lt_count c = omega (arith, c.requires, c.unsigned_max.ensures, high_fits c.args.wide c.args.narrow (omega (arith, c.requires)))

pub clamp_between-requires-in-SignedToUnsigned-clause-hi_bound : goal.clamp_between-requires-in-SignedToUnsigned-clause-hi_bound
clamp_between-requires-in-SignedToUnsigned-clause-hi_bound c =
    let a = c.args in
    omega (arith, c.unsigned_max-in-SignedToUnsigned.ensures, high_fits a.wide a.narrow (omega (arith, c.requires)), pow_pos a.wide)

pub returns-in-Signed : goal.returns-in-Signed
returns-in-Signed c = clamp-signed c.in-Signed.is c.power.ensures c.minus_power-low.ensures refl c.clamp_between.ensures

pub returns-in-Unsigned : goal.returns-in-Unsigned
returns-in-Unsigned c = clamp-unsigned c.in-Unsigned.is c.unsigned_max.ensures c.clamp_below.ensures

pub returns-in-SignedToUnsigned : goal.returns-in-SignedToUnsigned
returns-in-SignedToUnsigned c =
    clamp-to-unsigned c.in-SignedToUnsigned.is c.unsigned_max-in-SignedToUnsigned.ensures refl c.clamp_between-in-SignedToUnsigned.ensures
