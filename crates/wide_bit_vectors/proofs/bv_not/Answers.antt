-- `bv_not` gives `bvnot w`: each word inverted, cut to w bits.
use native.Mathlib.Omega.{arith}
use mathlib.Core.Path.{◌∙◌}
use Rattle.wide_bit_vectors.proofs.Laws.{not_at, not-words}
use Rattle.wide_bit_vectors.proofs.bv_not.Goals as goal

pub returns : goal.returns
returns c =
    c.cut.ensures ∙ rw (not-words c.args.a (omega arith)) (not_at _ 0 _ (omega arith) c.requires.1)
