-- A lane of n bits is below 2^n. Assumes nothing.
use mathlib.Core.Path.{subst}
use mathlib.Core.Bool.{Bool, true, false}
use Prim.Native.Nat.{ℕ, ◌+◌, ◌-◌, ◌*◌, ◌^◌, ◌≤◌, ◌<◌}
use native.Mathlib.Omega.{arith}
use native.Mathlib.Nat.{one-mul}
use lib.Pow.{shr_lt}
use Rattle.facts.proofs.Numbers.{below}
use Rattle.neon.specs.Arm.{wrap, bit_at, lanes}
use Rattle.neon.proofs.Lanes.{lanes-lt}
use Rattle.trees_value.proofs.Wrap.{wrap-lt}
use Rattle.trees_value.proofs.Bits.{ones-le, run-le, bit-lt}
use Rattle.trees.specs.declared.NeonOp.{NeonOp}
use Rattle.trees.specs.declared.NeonOp.TheVariants.{Shift, ShiftInsert, MixedSignAdd, DoublingLong, Saturating, BitwiseUnary, AbsoluteDifference, HighNarrow}
use Rattle.trees.specs.declared.ShiftKind.{ShiftKind}
use Rattle.trees.specs.declared.ShiftKind.TheVariants.{LeftImmediate, RightImmediate, Register}
use Rattle.trees.specs.declared.SaturatingKind.{SaturatingKind}
use Rattle.trees.specs.declared.SaturatingKind.TheVariants.{AddSub, Halving, Narrow, ShiftNarrow, DoublingMultiplyHigh, Unary}
use Rattle.trees.specs.declared.BitwiseUnary.{BitwiseUnary as Unaries}
use Rattle.trees.specs.declared.BitwiseUnary.TheVariants.{PopulationCount, LeadingZeros, LeadingSignBits, ReverseBits}
use Rattle.std.specs.declared.option.Option.{Option}
use Rattle.terms.specs.declared.BinOp.{BinOp}
use Rattle.std.specs.declared.option.Option.TheVariants.{None, Some}
use Rattle.saturation.specs.Family.{shift_lane_z, insert_lane_z, mixed_lane_z, doubling_lane_z, saturating_lane_z, bits_lane_z, difference_lane_z, plus_z, high_z, family_lane}
use Rattle.run_lanes.specs.Rows.{InsertIn, RowIn, source_of}
use Rattle.run_lanes.proofs.Counts.{left-fits, right-fits, right_is}

module _ (n d a b : ℕ) (hn : 0 < n) (h64 : n ≤ 64) (hd : d < 2 ^ n) where
  shift-lt : (kind : ShiftKind) (signed : Bool) → shift_lane_z kind signed n a b < 2 ^ n
  shift-lt (LeftImmediate shift saturate) signed = wrap-lt n _
  shift-lt (RightImmediate shift rounding) signed = wrap-lt n _
  shift-lt (Register rounding saturate) signed = wrap-lt n _

  insert-lt : (left : Bool) (shift : ℕ) → a < 2 ^ n → InsertIn left shift n → insert_lane_z left shift n d a < 2 ^ n
  insert-lt true shift h i = left-fits n shift a d h64 (omega arith)
  insert-lt false shift h i = subst (λ (t : ℕ). t < 2 ^ n) (right_is n shift a d h64 _) (right-fits n shift a d h64 i.1 h hd)

  mixed-lt : (signed : Bool) → mixed_lane_z signed n d a < 2 ^ n
  mixed-lt true = wrap-lt n _
  mixed-lt false = wrap-lt n _

  doubling-lt : (combine : Option BinOp) → doubling_lane_z combine n d a b < 2 ^ n
  doubling-lt None = wrap-lt n _
  doubling-lt (Some op) = wrap-lt n _

  saturating-lt : (kind : SaturatingKind) (signed : Bool) → saturating_lane_z kind signed n a b < 2 ^ n
  saturating-lt (AddSub op to) signed = wrap-lt n _
  saturating-lt (Halving rounding) signed = wrap-lt n _
  saturating-lt (Narrow to) signed = wrap-lt n _
  saturating-lt (ShiftNarrow shift rounding to) signed = wrap-lt n _
  saturating-lt (DoublingMultiplyHigh rounding) signed = wrap-lt n _
  saturating-lt (Unary negate) signed = wrap-lt n _

  bits-lt : (kind : Unaries) → bits_lane_z kind n a < 2 ^ n
  bits-lt PopulationCount = omega (arith, ones-le n a, below n)
  bits-lt LeadingZeros = omega (arith, run-le 0 n a, below n)
  bits-lt LeadingSignBits = omega (arith, run-le (bit_at (n - 1) a) (n - 1) a, below n)
  bits-lt ReverseBits = subst (λ (t : ℕ). lanes 1 n (λ j. bit_at (n - 1 - j) a) < 2 ^ t) (one-mul n) (lanes-lt 1 n (λ j. bit_at (n - 1 - j) a) (λ j. bit-lt (n - 1 - j) a))

  difference-lt : (signed accumulate : Bool) → difference_lane_z signed accumulate n d a b < 2 ^ n
  difference-lt signed true = wrap-lt n _
  difference-lt signed false = wrap-lt n _

  pub family-lt : (op : NeonOp) → a < 2 ^ source_of op n → RowIn op n → family_lane op n d a b < 2 ^ n
  unfolding family_lane
  family-lt (Shift kind signed) h i = shift-lt kind signed
  family-lt (ShiftInsert left shift) h i = insert-lt left shift h i
  family-lt (MixedSignAdd signed) h i = mixed-lt signed
  family-lt (DoublingLong combine upper element) h i = doubling-lt combine
  family-lt (Saturating kind signed upper) h i = saturating-lt kind signed
  family-lt (BitwiseUnary kind) h i = bits-lt kind
  family-lt (AbsoluteDifference signed accumulate) h i = difference-lt signed accumulate
  family-lt (HighNarrow subtract rounding upper) h i =
      shr_lt n n (subst (λ (t : ℕ). wrap (n * 2) (plus_z rounding (high_z subtract a b) (2 ^ (n - 1))) < 2 ^ t) {x = n * 2} {y = n + n} (omega arith) (wrap-lt (n * 2) _))
