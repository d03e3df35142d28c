-- `bv_add` gives `bvadd w`: the sum modulo 2^192, cut to w bits.
use native.Mathlib.Omega.{arith}
use mathlib.Core.Path.{◌∙◌}
use Rattle.wide_bit_vectors.proofs.Laws.{add_at}
use Rattle.wide_bit_vectors.proofs.bv_add.Goals as goal

pub returns : goal.returns
returns c = c.cut.ensures ∙ rw c.add.ensures (add_at _ _ _ (omega arith))
