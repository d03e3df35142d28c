-- `clamp_unsigned`: its two ends hold 0 and 2^n - 1, so `clamp` clamps into the unsigned range of n bits.
use Rattle.run_exact.proofs.Laws.{word_held}
use Rattle.neon.specs.Arm.{c_u}
use Rattle.saturation.specs.Saturates.{beyond_u}
use mathlib.Core.Path.{refl}
use Rattle.run_exact.proofs.clamp_unsigned.Goals as goal

pub returns : goal.returns
unfolding c_u beyond_u
returns c =
    λ z p. c.clamp.ensures _ _ z (word_held refl c.unsigned.ensures)
    (word_held c.unsigned_max.ensures c.unsigned-2.ensures) p
