-- `keep` gives `wrap n` of the integer that is held.
use native.Mathlib.Omega.{arith}
use Rattle.run_exact.proofs.Laws.{keep-is}
use Rattle.run_exact.proofs.keep.Goals as goal

pub returns : goal.returns
returns c = λ w z p. keep-is (omega arith) c.low_bits.ensures p
