-- The value of the block's bit, in the pool as a run from the 32 registers and the constant 0 left it, is 1 exactly when some lane of
-- some instruction saturates. Assumes nothing.
use mathlib.Core.Path.{◌≡◌, ap, ◌∙◌}
use mathlib.Core.List.{List}
use Prim.Native.Nat.{ℕ}
use Rattle.terms.specs.Expr.{Var}
use Rattle.terms.specs.Value.{value, bit}
use Rattle.neon.specs.declared.Instruction.{Instruction}
use Rattle.neon.specs.Refusal.{AllLegal}
use Rattle.pool.specs.Unfold.{unfold_at}
use Rattle.saturation.specs.Saturates.{saturates_run}
use Rattle.saturation.specs.Bits.{no}
use Rattle.saturation.proofs.Block.{block-bit-is}
use Rattle.saturation_step.specs.declared.Flagged.{Flagged}
use Rattle.saturation_run.specs.Run.{FlagRunMade}

pub bit-holds : (old : List ℕ) (f : Flagged) (new : List ℕ) (f' : Flagged) (cs : List Instruction) → FlagRunMade old f new f' cs Var no → AllLegal cs → (start : ℕ → ℕ)
    → value start (unfold_at new f'.bit.0) ≡ bit (saturates_run cs start)
bit-holds old f new f' cs m l start = ap (value start) m.bit_is.tree ∙ (block-bit-is start cs l).val
