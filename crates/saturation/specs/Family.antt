-- A lane by family and flags, as the runner computes it: `arm_lane` grouped as the lowering groups it. n is the lane's bits.
use Rattle.std.specs.Prelude.{Bool, true, false, ◌||◌, ℕ, ◌+◌, ◌-◌, ◌*◌, ◌/◌, ◌%◌, ◌^◌, ℤ, pos, neg_ℤ, nat_abs, ◌+ℤ◌, ◌-ℤ◌, ◌*ℤ◌}
use Rattle.terms.specs.declared.BinOp.{BinOp}
use Rattle.terms.specs.declared.BinOp.TheVariants.{Add, Sub, Mul, And, Or, Xor, Shl, LShr, AShr}
use Rattle.neon.specs.Arm.{wrap, U, S, c_s, c_u, floor, round, scale, byte, shift_z, round_z, ones, equal_run, bit_at, lanes, doubled}
use Rattle.trees.specs.declared.NeonOp.{NeonOp}
use Rattle.trees.specs.declared.NeonOp.TheVariants.{Shift, ShiftInsert, MixedSignAdd, DoublingLong, Saturating, BitwiseUnary, AbsoluteDifference, HighNarrow}
use Rattle.trees.specs.declared.SaturateTo.{SaturateTo}
use Rattle.trees.specs.declared.SaturateTo.TheVariants.{Signed, Unsigned, SignedToUnsigned}
use Rattle.std.specs.declared.option.Option.{Option}
use Rattle.std.specs.declared.option.Option.TheVariants.{None, Some}
use Rattle.trees.specs.declared.ShiftKind.{ShiftKind}
use Rattle.trees.specs.declared.ShiftKind.TheVariants.{LeftImmediate, RightImmediate, Register}
use Rattle.trees.specs.declared.SaturatingKind.{SaturatingKind}
use Rattle.trees.specs.declared.SaturatingKind.TheVariants.{AddSub, Halving, Narrow, ShiftNarrow, DoublingMultiplyHigh, Unary}
use Rattle.trees.specs.declared.BitwiseUnary.{BitwiseUnary as Unaries}
use Rattle.trees.specs.declared.BitwiseUnary.TheVariants.{PopulationCount, LeadingZeros, LeadingSignBits, ReverseBits}
use Rattle.saturation.specs.Saturates.{beyond_s, beyond_u, twice}

-- a lane as it is read, signed if the flag is true
abbrev pub read_z : Bool → ℕ → ℕ → ℤ
read_z true n a = S n a
read_z false n a = U a

-- the clamp, and whether it alters
abbrev pub clamp_to : SaturateTo → ℕ → ℤ → ℤ
clamp_to Signed n z = c_s n z
clamp_to Unsigned n z = c_u n z
clamp_to SignedToUnsigned n z = c_u n z

abbrev pub beyond_to : SaturateTo → ℕ → ℤ → Bool
beyond_to Signed n z = beyond_s n z
beyond_to Unsigned n z = beyond_u n z
beyond_to SignedToUnsigned n z = beyond_u n z

abbrev pub limited : Option SaturateTo → ℕ → ℤ → ℤ
limited None n z = z
limited (Some to) n z = clamp_to to n z

abbrev pub beyond_limit : Option SaturateTo → ℕ → ℤ → Bool
beyond_limit None n z = false
beyond_limit (Some to) n z = beyond_to to n z

-- a register shift clamps into the range that it reads
abbrev pub own_range : Bool → Bool → Option SaturateTo
own_range true true = Some Signed
own_range true false = Some Unsigned
own_range false s = None

abbrev pub join_z : BinOp → ℤ → ℤ → ℤ
join_z Sub x y = x -ℤ y
join_z Add x y = x +ℤ y
join_z Mul x y = x +ℤ y
join_z And x y = x +ℤ y
join_z Or x y = x +ℤ y
join_z Xor x y = x +ℤ y
join_z Shl x y = x +ℤ y
join_z LShr x y = x +ℤ y
join_z AShr x y = x +ℤ y

abbrev pub right_z : Bool → ℤ → ℕ → ℤ
right_z true z i = round z i
right_z false z i = floor z i

abbrev pub turn_z : Bool → ℤ → ℤ → ℤ
turn_z true z k = round_z z k
turn_z false z k = shift_z z k

abbrev pub unary_z : Bool → ℤ → ℤ
unary_z true x = neg_ℤ x
unary_z false x = pos (nat_abs x)

abbrev pub plus_z : Bool → ℤ → ℕ → ℤ
plus_z true z c = z +ℤ pos c
plus_z false z c = z

abbrev pub high_z : Bool → ℕ → ℕ → ℤ
high_z true a b = U a -ℤ U b
high_z false a b = U a +ℤ U b

abbrev pub shift_lane_z : ShiftKind → (signed : Bool) (n a b : ℕ) → ℕ
shift_lane_z (LeftImmediate shift saturate) signed n a b = wrap n (limited saturate n (scale (read_z signed n a) shift))
shift_lane_z (RightImmediate shift rounding) signed n a b = wrap n (right_z rounding (read_z signed n a) shift)
shift_lane_z (Register rounding saturate) signed n a b = wrap n (limited (own_range saturate signed) n (turn_z rounding (read_z signed n a) (byte b)))

abbrev pub insert_lane_z : Bool → (shift n d a : ℕ) → ℕ
insert_lane_z true shift n d a = wrap n (scale (U a) shift) + d % 2 ^ shift
insert_lane_z false shift n d a = d / 2 ^ (n - shift) * 2 ^ (n - shift) + wrap n (floor (U a) shift)

abbrev pub mixed_lane_z : Bool → (n d a : ℕ) → ℕ
mixed_lane_z true n d a = wrap n (c_s n (S n d +ℤ U a))
mixed_lane_z false n d a = wrap n (c_u n (U d +ℤ S n a))

abbrev pub doubling_lane_z : Option BinOp → (n d a b : ℕ) → ℕ
doubling_lane_z None n d a b = wrap n (doubled n a b)
doubling_lane_z (Some op) n d a b = wrap n (c_s n (join_z op (S n d) (doubled n a b)))

abbrev pub saturating_lane_z : SaturatingKind → (signed : Bool) (n a b : ℕ) → ℕ
saturating_lane_z (AddSub op to) signed n a b = wrap n (clamp_to to n (join_z op (read_z signed n a) (read_z signed n b)))
saturating_lane_z (Halving rounding) signed n a b = wrap n (right_z rounding (read_z signed n a +ℤ read_z signed n b) 1)
saturating_lane_z (Narrow to) signed n a b = wrap n (clamp_to to n (read_z signed (n * 2) a))
saturating_lane_z (ShiftNarrow shift rounding to) signed n a b = wrap n (limited to n (right_z rounding (read_z signed (n * 2) a) shift))
saturating_lane_z (DoublingMultiplyHigh rounding) signed n a b = wrap n (c_s n (right_z rounding (S n a *ℤ S n b *ℤ pos 2) n))
saturating_lane_z (Unary negate) signed n a b = wrap n (c_s n (unary_z negate (S n a)))

abbrev pub bits_lane_z : Unaries → (n a : ℕ) → ℕ
bits_lane_z PopulationCount n a = ones n a
bits_lane_z LeadingZeros n a = equal_run 0 n a
bits_lane_z LeadingSignBits n a = equal_run (bit_at (n - 1) a) (n - 1) a
bits_lane_z ReverseBits n a = lanes 1 n (λ j. bit_at (n - 1 - j) a)

abbrev pub difference_lane_z : Bool → Bool → (n d a b : ℕ) → ℕ
difference_lane_z signed true n d a b = wrap n (U d +ℤ pos (nat_abs (read_z signed n a -ℤ read_z signed n b)))
difference_lane_z signed false n d a b = wrap n (pos (nat_abs (read_z signed n a -ℤ read_z signed n b)))

unfoldable pub family_lane : NeonOp → (n d a b : ℕ) → ℕ
family_lane (Shift kind signed) n d a b = shift_lane_z kind signed n a b
family_lane (ShiftInsert left shift) n d a b = insert_lane_z left shift n d a
family_lane (MixedSignAdd signed) n d a b = mixed_lane_z signed n d a
family_lane (DoublingLong combine upper element) n d a b = doubling_lane_z combine n d a b
family_lane (Saturating kind signed upper) n d a b = saturating_lane_z kind signed n a b
family_lane (BitwiseUnary kind) n d a b = bits_lane_z kind n a
family_lane (AbsoluteDifference signed accumulate) n d a b = difference_lane_z signed accumulate n d a b
family_lane (HighNarrow subtract rounding upper) n d a b = wrap (n * 2) (plus_z rounding (high_z subtract a b) (2 ^ (n - 1))) / 2 ^ n

-- whether it saturates
abbrev pub shift_beyond : ShiftKind → (signed : Bool) (n a b : ℕ) → Bool
shift_beyond (LeftImmediate shift saturate) signed n a b = beyond_limit saturate n (scale (read_z signed n a) shift)
shift_beyond (RightImmediate shift rounding) signed n a b = false
shift_beyond (Register rounding saturate) signed n a b = beyond_limit (own_range saturate signed) n (turn_z rounding (read_z signed n a) (byte b))

abbrev pub mixed_beyond : Bool → (n d a : ℕ) → Bool
mixed_beyond true n d a = beyond_s n (S n d +ℤ U a)
mixed_beyond false n d a = beyond_u n (U d +ℤ S n a)

abbrev pub doubling_beyond : Option BinOp → (n d a b : ℕ) → Bool
doubling_beyond None n d a b = beyond_s n (twice n a b)
doubling_beyond (Some op) n d a b = beyond_s n (twice n a b) || beyond_s n (join_z op (S n d) (doubled n a b))

abbrev pub saturating_beyond : SaturatingKind → (signed : Bool) (n a b : ℕ) → Bool
saturating_beyond (AddSub op to) signed n a b = beyond_to to n (join_z op (read_z signed n a) (read_z signed n b))
saturating_beyond (Halving rounding) signed n a b = false
saturating_beyond (Narrow to) signed n a b = beyond_to to n (read_z signed (n * 2) a)
saturating_beyond (ShiftNarrow shift rounding to) signed n a b = beyond_limit to n (right_z rounding (read_z signed (n * 2) a) shift)
saturating_beyond (DoublingMultiplyHigh rounding) signed n a b = beyond_s n (right_z rounding (S n a *ℤ S n b *ℤ pos 2) n)
saturating_beyond (Unary negate) signed n a b = beyond_s n (unary_z negate (S n a))

unfoldable pub family_beyond : NeonOp → (n d a b : ℕ) → Bool
family_beyond (Shift kind signed) n d a b = shift_beyond kind signed n a b
family_beyond (ShiftInsert left shift) n d a b = false
family_beyond (MixedSignAdd signed) n d a b = mixed_beyond signed n d a
family_beyond (DoublingLong combine upper element) n d a b = doubling_beyond combine n d a b
family_beyond (Saturating kind signed upper) n d a b = saturating_beyond kind signed n a b
family_beyond (BitwiseUnary kind) n d a b = false
family_beyond (AbsoluteDifference signed accumulate) n d a b = false
family_beyond (HighNarrow subtract rounding upper) n d a b = false
