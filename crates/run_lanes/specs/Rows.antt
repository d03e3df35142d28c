-- What a lane's family asks of its amounts and widths.
use Rattle.std.specs.Prelude.{Bool, true, false, ℕ, ◌*◌, ◌/◌, ◌≤◌, ◌<◌}
use Rattle.trees.specs.declared.NeonOp.{NeonOp}
use Rattle.trees.specs.declared.NeonOp.TheVariants.{Shift, ShiftInsert, MixedSignAdd, DoublingLong, Saturating, BitwiseUnary, AbsoluteDifference, HighNarrow}
use Rattle.trees.specs.Arith.{kind_bits}
use Rattle.lower_kinds.specs.Sources.{AmountIn, KindIn}

-- the amount of SLI, of SRI
abbrev pub InsertIn : Bool → (shift n : ℕ) → Type 0
InsertIn true shift n = shift < n
InsertIn false shift n = (0 < shift) × (shift ≤ n)

abbrev pub RowIn : NeonOp → ℕ → Type 0
RowIn (Shift kind signed) n = AmountIn kind n
RowIn (ShiftInsert left shift) n = InsertIn left shift n
RowIn (MixedSignAdd signed) n = n ≤ 64
RowIn (DoublingLong combine upper element) n = 2 ≤ n
RowIn (Saturating kind signed upper) n = KindIn kind n
RowIn (BitwiseUnary kind) n = n ≤ 64
RowIn (AbsoluteDifference signed accumulate) n = n ≤ 64
RowIn (HighNarrow subtract rounding upper) n = n ≤ 32

-- the bits of a source lane
abbrev pub source_of : NeonOp → ℕ → ℕ
source_of (Shift kind signed) n = n
source_of (ShiftInsert left shift) n = n
source_of (MixedSignAdd signed) n = n
source_of (DoublingLong combine upper element) n = n / 2
source_of (Saturating kind signed upper) n = kind_bits kind n
source_of (BitwiseUnary kind) n = n
source_of (AbsoluteDifference signed accumulate) n = n
source_of (HighNarrow subtract rounding upper) n = n * 2
