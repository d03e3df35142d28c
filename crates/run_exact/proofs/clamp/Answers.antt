-- `clamp` answers `clamp_z low high` of the integer in n bits, and whether it was outside.
use mathlib.Core.Path.{sym, ◌∙◌}
use Rattle.run_exact.proofs.Laws.{less-is, clamp-low, clamp-high, clamp-none}
use Rattle.run_exact.proofs.clamp.Goals as goal

pub returns-then-bv_slt : goal.returns-then-bv_slt
returns-then-bv_slt c =
    λ l h z p q u. clamp-low c.args.n l h z (sym (less-is c.bv_slt.ensures u p) ∙ c.if-bv_slt.true) (c.keep.ensures 192 l p)

pub returns-then-bv_slt-2 : goal.returns-then-bv_slt-2
returns-then-bv_slt-2 c =
    λ l h z p q u. clamp-high c.args.n l h z (sym (less-is c.bv_slt.ensures u p) ∙ c.if-bv_slt.false)
    (sym (less-is c.bv_slt-2.ensures q u) ∙ c.if-bv_slt-2.true) (c.keep-then-bv_slt-2.ensures 192 h q)

pub returns : goal.returns
returns c =
    λ l h z p q u. clamp-none c.args.n l h z (sym (less-is c.bv_slt.ensures u p) ∙ c.if-bv_slt.false)
    (sym (less-is c.bv_slt-2.ensures q u) ∙ c.if-bv_slt-2.false) (c.keep-2.ensures 192 z u)
