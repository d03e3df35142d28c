-- `limit` answers `limited` and `beyond_limit`: clamped into a range, or n bits that never saturate.
use mathlib.Core.Path.{refl}
use Rattle.run_exact.proofs.limit.Goals as goal

pub returns-in-None : goal.returns-in-None
returns-in-None c = λ z p. rw c.in-None.is (record { bits_are = c.keep.ensures 192 z p; saturated_is = refl })
