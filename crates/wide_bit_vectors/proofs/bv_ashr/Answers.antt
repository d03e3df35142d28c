-- `bv_ashr` gives `bvashr w`: a logical shift, of the inverted bits if the top bit is set, which are inverted back.
use native.Mathlib.Omega.{arith}
use mathlib.Core.Path.{sym, ◌∙◌}
use Rattle.wide_bit_vectors.proofs.Laws.{ashr-plain, ashr-signed, not-lt, lshr-lt}
use Rattle.wide_bit_vectors.proofs.bv_ashr.Goals as goal

pub returns-then-top_bit-eq0 : goal.returns-then-top_bit-eq0
returns-then-top_bit-eq0 c = c.bv_lshr.ensures ∙ ashr-plain _ _ _ (sym c.top_bit.ensures ∙ c.if-top_bit-eq0.true)

pub bv_lshr-requires-2 : goal.bv_lshr-requires-2
bv_lshr-requires-2 c = (omega arith, rw c.bv_not.ensures (not-lt _ 0 _ (omega arith)))

pub bv_not-requires-2 : goal.bv_not-requires-2
bv_not-requires-2 c = (omega arith, rw c.bv_lshr-2.ensures (lshr-lt _ _ _ (omega arith)))

pub returns : goal.returns
returns c =
    c.bv_not-2.ensures ∙ rw (c.bv_lshr-2.ensures, c.bv_not.ensures) (ashr-signed _ _ _ (omega (arith, c.top_bit.ensures, c.if-top_bit-eq0.false)))
