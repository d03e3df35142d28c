-- `bv_sext` gives `bvsext m w`: as it is, or inverted in m bits and back in w.
use native.Mathlib.Omega.{arith}
use mathlib.Core.Path.{sym, ◌∙◌}
use Rattle.wide_bit_vectors.proofs.Laws.{sext-plain, sext-signed, not-small}
use Rattle.wide_bit_vectors.proofs.bv_sext.Goals as goal

pub returns-then-top_bit-eq0 : goal.returns-then-top_bit-eq0
returns-then-top_bit-eq0 c = sext-plain _ _ _ (sym c.top_bit.ensures ∙ c.if-top_bit-eq0.true)

pub bv_not-requires-2 : goal.bv_not-requires-2
bv_not-requires-2 c = (omega arith, rw c.bv_not.ensures (not-small _ _ _ (omega arith)))

pub returns : goal.returns
returns c =
    c.bv_not-2.ensures
    ∙ rw c.bv_not.ensures (sext-signed _ _ _ (omega arith) c.requires.3 (omega (arith, c.top_bit.ensures, c.if-top_bit-eq0.false)))
