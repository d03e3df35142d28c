-- `magnitude` holds the integer's magnitude, in one bit more.
use mathlib.Core.Path.{sym, ◌∙◌}
use native.Mathlib.Omega.{arith}
use Rattle.run_exact.proofs.Laws.{less-is, fitting, magnitude-low, magnitude-high}
use Rattle.run_exact.proofs.magnitude.Goals as goal

pub returns-then-bv_slt : goal.returns-then-bv_slt
returns-then-bv_slt c =
    λ w z hw h p. magnitude-low z (sym (less-is c.bv_slt.ensures (fitting h p) (fitting (omega arith) c.unsigned.ensures))
    ∙ c.if-bv_slt.true) (c.negative.ensures w z hw p)

pub returns : goal.returns
returns c =
    λ w z hw h p. magnitude-high z (sym (less-is c.bv_slt.ensures (fitting h p) (fitting (omega arith) c.unsigned.ensures))
    ∙ c.if-bv_slt.false) p
