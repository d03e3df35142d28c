-- `clamp_signed`: its two ends hold -2^(n-1) and 2^(n-1) - 1, so `clamp` clamps into the signed range of n bits.
use Rattle.run_exact.proofs.Laws.{low_held, word_held, half_lt}
use Prim.Native.Nat.{ℕ, ◌-◌}
use Rattle.neon.specs.Arm.{c_s}
use Rattle.saturation.specs.Saturates.{beyond_s}
use mathlib.Core.Path.{ap}
use native.Mathlib.Omega.{arith}
use Rattle.run_exact.proofs.clamp_signed.Goals as goal

pub signed-requires : goal.signed-requires
signed-requires c = (omega arith, omega arith, rw c.power-half.ensures (half_lt _ (omega arith)))

pub returns : goal.returns
unfolding c_s beyond_s
returns c =
    λ z p. c.clamp.ensures _ _ z (low_held (omega arith) (omega arith) c.power-half.ensures c.signed.ensures)
    (word_held (ap (λ (t : ℕ). t - 1) c.power-half.ensures) c.unsigned.ensures) p
