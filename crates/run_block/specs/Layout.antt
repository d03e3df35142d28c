-- How the lanes of a family lie in the registers that it reads.
use Rattle.std.specs.Prelude.{Bool, true, false, cond, ◌||◌, ℕ, ◌*◌, ◌/◌}
use Rattle.trees.specs.declared.NeonOp.{NeonOp}
use Rattle.trees.specs.declared.NeonOp.TheVariants.{Shift, ShiftInsert, MixedSignAdd, DoublingLong, Saturating, BitwiseUnary, AbsoluteDifference, HighNarrow}
use Rattle.trees.specs.Arith.{narrowing}
use Rattle.run_block.specs.declared.Layout.{Layout}

abbrev pub layout : (narrow long upper element : Bool) → Layout
layout narrow long upper element = record { narrow = narrow; long = long; upper = upper; element = element }

abbrev pub layout_of : NeonOp → Layout
layout_of (Shift kind signed) = layout false false false false
layout_of (ShiftInsert left shift) = layout false false false false
layout_of (MixedSignAdd signed) = layout false false false false
layout_of (DoublingLong combine upper element) = layout false true upper element
layout_of (Saturating kind signed upper) = layout (narrowing kind) false false false
layout_of (BitwiseUnary kind) = layout false false false false
layout_of (AbsoluteDifference signed accumulate) = layout false false false false
layout_of (HighNarrow subtract rounding upper) = layout true false false false

-- the bits of a source lane, the lanes that are left out, the halves that are read
abbrev pub source_by : Layout → ℕ → ℕ
source_by y n = cond y.narrow (n * 2) (cond y.long (n / 2) n)

abbrev pub skip_by : Layout → ℕ → ℕ
skip_by y k = cond y.upper k 0

abbrev pub first_by : Layout → Bool → Bool
first_by y whole = cond y.narrow true (cond y.long y.upper whole)

abbrev pub second_by : Layout → Bool → Bool
second_by y whole = cond y.narrow true (cond y.long (y.upper || y.element) whole)
