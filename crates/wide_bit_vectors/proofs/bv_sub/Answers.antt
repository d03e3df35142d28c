-- `bv_sub` gives `bvsub w`: the difference modulo 2^192, cut to w bits.
use native.Mathlib.Omega.{arith}
use mathlib.Core.Path.{◌∙◌}
use Rattle.wide_bit_vectors.proofs.Laws.{sub_at}
use Rattle.wide_bit_vectors.proofs.bv_sub.Goals as goal

pub returns : goal.returns
returns c = c.cut.ensures ∙ rw c.sub.ensures (sub_at _ _ _ (omega arith) c.requires.1)
