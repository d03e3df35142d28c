-- What a kind says of its sources: whether there is a second, and the lanes and amounts of its rows.
use Rattle.std.specs.Prelude.{Bool, true, false, ℕ, ◌≤◌, ◌<◌}
use Rattle.trees.specs.declared.ShiftKind.{ShiftKind}
use Rattle.trees.specs.declared.ShiftKind.TheVariants.{LeftImmediate, RightImmediate, Register}
use Rattle.trees.specs.declared.SaturatingKind.{SaturatingKind}
use Rattle.trees.specs.declared.SaturatingKind.TheVariants.{AddSub, Halving, Narrow, ShiftNarrow, DoublingMultiplyHigh, Unary}

-- ---- shifts

-- whether the amount is the second source
abbrev pub is_register : ShiftKind → Bool
is_register (LeftImmediate shift saturate) = false
is_register (RightImmediate shift rounding) = false
is_register (Register rounding saturate) = true

-- an immediate is of its row, for lanes of n bits
abbrev pub AmountIn : ShiftKind → ℕ → Type 0
AmountIn (LeftImmediate shift saturate) n = shift < n
AmountIn (RightImmediate shift rounding) n = (1 ≤ shift) × (shift ≤ n)
AmountIn (Register rounding saturate) n = Unit {0}

-- ---- saturating kinds

abbrev pub uses_second : SaturatingKind → Bool
uses_second (AddSub op to) = true
uses_second (Halving rounding) = true
uses_second (Narrow to) = false
uses_second (ShiftNarrow shift rounding to) = false
uses_second (DoublingMultiplyHigh rounding) = true
uses_second (Unary negate) = false

-- a lane of n bits: at most 32 if the lane is computed at 2n bits or more, and a shift of 1 to n
abbrev pub KindIn : SaturatingKind → ℕ → Type 0
KindIn (AddSub op to) n = n ≤ 64
KindIn (Halving rounding) n = n ≤ 64
KindIn (Narrow to) n = n ≤ 32
KindIn (ShiftNarrow shift rounding to) n = (n ≤ 32) × (1 ≤ shift) × (shift ≤ n)
KindIn (DoublingMultiplyHigh rounding) n = n ≤ 32
KindIn (Unary negate) n = n ≤ 64
