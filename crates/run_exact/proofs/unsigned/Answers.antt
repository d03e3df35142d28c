-- `unsigned` holds a word as the number it is, in 65 bits.
use native.Mathlib.Omega.{arith}
use Rattle.run_exact.proofs.Laws.{unsigned_is}
use Rattle.run_exact.proofs.unsigned.Goals as goal

pub returns : goal.returns
returns c = unsigned_is c.args.a (omega arith)
