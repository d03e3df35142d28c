use native.Mathlib.Omega.{arith}
use lib.Pow.{pow_pos, pow_mono, pow-lt}
use Prim.Native.Nat.{◌-◌, ◌^◌}
use mathlib.Core.Path.{sym, ◌∙◌}
use Rattle.facts.proofs.Numbers.{high-power}
use Rattle.lower.proofs.Powers.{high-less, minus-high}
use Rattle.lower.proofs.minus_power.Goals as goal

-- 2^bits is not 0, and is 2^wide or less
pub overflow_sub-result : goal.overflow_sub-result
overflow_sub-result c =
    let a = c.args in
    omega (arith, c.power-below.ensures, c.unsigned_max.ensures, pow_pos a.bits, pow_mono {i = a.bits} {j = a.wide} (omega arith))

pub returns : goal.returns
returns c =
    let a = c.args in
    rw (c.power-below.ensures, c.unsigned_max-2.ensures)
    (minus-high (2 ^ a.wide) (2 ^ a.bits) _ (pow_pos a.bits) (pow-lt {i = a.bits} {j = 64} (omega arith))
    (high-less (2 ^ (a.wide - 64)) (pow_pos (a.wide - 64)) ∙ sym (high-power a.wide (omega arith))))
