-- What a family reads and makes, with k lanes of n bits, and what it needs of them.
use Rattle.std.specs.Prelude.{Bool, true, false, ◌≡◌, ℕ, ◌+◌, ◌*◌, ◌/◌, ◌≤◌}
use Rattle.trees.specs.declared.NeonOp.{NeonOp}
use Rattle.trees.specs.declared.NeonOp.TheVariants.{Shift, ShiftInsert, MixedSignAdd, DoublingLong, Saturating, BitwiseUnary, AbsoluteDifference, HighNarrow}
use Rattle.trees.specs.Arith.{kind_bits}
use Rattle.lower_kinds.specs.Sources.{is_register, AmountIn, uses_second, KindIn}
use Rattle.lower_doubling_long.specs.Elements.{accumulates, factor_bits, second_factor_bits}

abbrev pub reads_second : NeonOp → Bool
reads_second (Shift kind signed) = is_register kind
reads_second (ShiftInsert left shift) = false
reads_second (MixedSignAdd signed) = false
reads_second (DoublingLong combine upper by_element) = true
reads_second (Saturating kind signed upper) = uses_second kind
reads_second (BitwiseUnary kind) = false
reads_second (AbsoluteDifference signed accumulate) = true
reads_second (HighNarrow subtract rounding upper) = true

abbrev pub reads_old : NeonOp → Bool
reads_old (Shift kind signed) = false
reads_old (ShiftInsert left shift) = true
reads_old (MixedSignAdd signed) = true
reads_old (DoublingLong combine upper by_element) = accumulates combine
reads_old (Saturating kind signed upper) = upper
reads_old (BitwiseUnary kind) = false
reads_old (AbsoluteDifference signed accumulate) = accumulate
reads_old (HighNarrow subtract rounding upper) = upper

-- whether the lower half of the old destination stays below the lanes
abbrev pub keeps_lower : NeonOp → Bool
keeps_lower (Shift kind signed) = false
keeps_lower (ShiftInsert left shift) = false
keeps_lower (MixedSignAdd signed) = false
keeps_lower (DoublingLong combine upper by_element) = false
keeps_lower (Saturating kind signed upper) = upper
keeps_lower (BitwiseUnary kind) = false
keeps_lower (AbsoluteDifference signed accumulate) = false
keeps_lower (HighNarrow subtract rounding upper) = upper

abbrev pub old_width : NeonOp → (n k : ℕ) → ℕ
old_width (Shift kind signed) n k = n * k
old_width (ShiftInsert left shift) n k = n * k
old_width (MixedSignAdd signed) n k = n * k
old_width (DoublingLong combine upper by_element) n k = n * k
old_width (Saturating kind signed upper) n k = n * k * 2
old_width (BitwiseUnary kind) n k = n * k
old_width (AbsoluteDifference signed accumulate) n k = n * k
old_width (HighNarrow subtract rounding upper) n k = n * k * 2

abbrev pub first_width : NeonOp → (n k : ℕ) → ℕ
first_width (Shift kind signed) n k = n * k
first_width (ShiftInsert left shift) n k = n * k
first_width (MixedSignAdd signed) n k = n * k
first_width (DoublingLong combine upper by_element) n k = factor_bits upper n k
first_width (Saturating kind signed upper) n k = kind_bits kind n * k
first_width (BitwiseUnary kind) n k = n * k
first_width (AbsoluteDifference signed accumulate) n k = n * k
first_width (HighNarrow subtract rounding upper) n k = n * 2 * k

abbrev pub second_width : NeonOp → (n k : ℕ) → ℕ
second_width (Shift kind signed) n k = n * k
second_width (ShiftInsert left shift) n k = n * k
second_width (MixedSignAdd signed) n k = n * k
second_width (DoublingLong combine upper by_element) n k = second_factor_bits by_element upper n k
second_width (Saturating kind signed upper) n k = kind_bits kind n * k
second_width (BitwiseUnary kind) n k = n * k
second_width (AbsoluteDifference signed accumulate) n k = n * k
second_width (HighNarrow subtract rounding upper) n k = n * 2 * k

-- the amount, the element i and the source lanes are of the family's rows
abbrev pub FamilyIn : NeonOp → (n k i : ℕ) → Type 0
FamilyIn (Shift kind signed) n k i = AmountIn kind n
FamilyIn (ShiftInsert left shift) n k i = shift ≤ n
FamilyIn (MixedSignAdd signed) n k i = Unit {0}
FamilyIn (DoublingLong combine upper by_element) n k i = n / 2 * i + n / 2 ≤ 128
FamilyIn (Saturating kind signed upper) n k i = KindIn kind n × (kind_bits kind n * k ≤ 128) × (upper ≡ true → n * k ≤ 64)
FamilyIn (BitwiseUnary kind) n k i = Unit {0}
FamilyIn (AbsoluteDifference signed accumulate) n k i = Unit {0}
FamilyIn (HighNarrow subtract rounding upper) n k i = (n ≤ 32) × (n * 2 * k ≤ 128)
