-- `bv_concat` gives a * 2^w + b: the shift loses no bit, and the sum does not wrap.
use mathlib.Core.Path.{◌∙◌}
use Rattle.wide_bit_vectors.proofs.Laws.{concat-is}
use Rattle.wide_bit_vectors.proofs.bv_concat.Goals as goal

pub returns : goal.returns
returns c = c.add.ensures ∙ rw c.shl.ensures (concat-is _ _ _ c.requires.1)
