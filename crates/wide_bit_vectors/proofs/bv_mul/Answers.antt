-- `bv_mul` gives `bvmul w`: the product modulo 2^192, cut to w bits.
use native.Mathlib.Omega.{arith}
use mathlib.Core.Path.{◌∙◌}
use Rattle.wide_bit_vectors.proofs.Laws.{mul_at}
use Rattle.wide_bit_vectors.proofs.bv_mul.Goals as goal

pub returns : goal.returns
returns c = c.cut.ensures ∙ rw c.mul.ensures (mul_at _ _ _ (omega arith))
