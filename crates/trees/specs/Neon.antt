-- The Rust's arguments for each operation (document 01, "Forms"), and `neon_value` of neon/lower.rs, which builds its term.
use Rattle.std.specs.declared.option.Option.TheVariants.{None, Some}
use Rattle.std.specs.Prelude.{Bool, true, false, ℕ}
use Rattle.terms.specs.Expr.{Expr}
use Rattle.neon.specs.Op.{Op, Arrangement, bits_of_lane, full}
use Rattle.neon.specs.Form.{lane_count}
use Rattle.trees.specs.declared.NeonOp.{NeonOp}
use Rattle.trees.specs.declared.NeonOp.TheVariants.{Shift, ShiftInsert, MixedSignAdd, DoublingLong, Saturating, BitwiseUnary, AbsoluteDifference, HighNarrow}
use Rattle.trees.specs.declared.NeonShape.{NeonShape}
use Rattle.trees.specs.Simd.{Cutter}
use Rattle.trees.specs.Arith.{Add, Sub, Signed, Unsigned, SignedToUnsigned, LeftImmediate, RightImmediate, Register, AddSub, Halving, Narrow, ShiftNarrow, DoublingMultiplyHigh}
use Rattle.trees.specs.Arith.{Unary, PopulationCount, LeadingZeros, LeadingSignBits, ReverseBits, shift_lanes, shift_insert_lanes, mixed_sign_add_lanes, doubling_long_lanes}
use Rattle.trees.specs.Arith.{saturating_lanes, bitwise_unary_lanes, absolute_difference_lanes}
use Rattle.trees.specs.Width.{high_narrow_lanes}

-- i is the immediate; `upper` is that of a narrowing 2 form
abbrev pub neon_op : Op → ℕ → Bool → NeonOp
neon_op Op.SHL i upper = Shift (LeftImmediate i None) false
neon_op Op.SQSHLI i upper = Shift (LeftImmediate i (Some Signed)) true
neon_op Op.UQSHLI i upper = Shift (LeftImmediate i (Some Unsigned)) false
neon_op Op.SQSHLU i upper = Shift (LeftImmediate i (Some SignedToUnsigned)) true
neon_op Op.SSHR i upper = Shift (RightImmediate i false) true
neon_op Op.USHR i upper = Shift (RightImmediate i false) false
neon_op Op.SRSHR i upper = Shift (RightImmediate i true) true
neon_op Op.URSHR i upper = Shift (RightImmediate i true) false
neon_op Op.SSHL i upper = Shift (Register false false) true
neon_op Op.USHL i upper = Shift (Register false false) false
neon_op Op.SRSHL i upper = Shift (Register true false) true
neon_op Op.URSHL i upper = Shift (Register true false) false
neon_op Op.SQSHL i upper = Shift (Register false true) true
neon_op Op.UQSHL i upper = Shift (Register false true) false
neon_op Op.SQRSHL i upper = Shift (Register true true) true
neon_op Op.UQRSHL i upper = Shift (Register true true) false
neon_op Op.SLI i upper = ShiftInsert true i
neon_op Op.SRI i upper = ShiftInsert false i
neon_op Op.SQADD i upper = Saturating (AddSub Add Signed) true false
neon_op Op.UQADD i upper = Saturating (AddSub Add Unsigned) false false
neon_op Op.SQSUB i upper = Saturating (AddSub Sub Signed) true false
neon_op Op.UQSUB i upper = Saturating (AddSub Sub SignedToUnsigned) false false
neon_op Op.SHADD i upper = Saturating (Halving false) true false
neon_op Op.UHADD i upper = Saturating (Halving false) false false
neon_op Op.SRHADD i upper = Saturating (Halving true) true false
neon_op Op.URHADD i upper = Saturating (Halving true) false false
neon_op Op.SQXTN i upper = Saturating (Narrow Signed) true upper
neon_op Op.UQXTN i upper = Saturating (Narrow Unsigned) false upper
neon_op Op.SQXTUN i upper = Saturating (Narrow SignedToUnsigned) true upper
neon_op Op.SHRN i upper = Saturating (ShiftNarrow i false None) false upper
neon_op Op.RSHRN i upper = Saturating (ShiftNarrow i true None) false upper
neon_op Op.SQSHRN i upper = Saturating (ShiftNarrow i false (Some Signed)) true upper
neon_op Op.SQRSHRN i upper = Saturating (ShiftNarrow i true (Some Signed)) true upper
neon_op Op.UQSHRN i upper = Saturating (ShiftNarrow i false (Some Unsigned)) false upper
neon_op Op.UQRSHRN i upper = Saturating (ShiftNarrow i true (Some Unsigned)) false upper
neon_op Op.SQSHRUN i upper = Saturating (ShiftNarrow i false (Some SignedToUnsigned)) true upper
neon_op Op.SQRSHRUN i upper = Saturating (ShiftNarrow i true (Some SignedToUnsigned)) true upper
neon_op Op.SQABS i upper = Saturating (Unary false) true false
neon_op Op.SQNEG i upper = Saturating (Unary true) true false
neon_op Op.SQDMULH i upper = Saturating (DoublingMultiplyHigh false) true false
neon_op Op.SQRDMULH i upper = Saturating (DoublingMultiplyHigh true) true false
neon_op Op.SQDMULL i upper = DoublingLong None false false
neon_op Op.SQDMLAL i upper = DoublingLong (Some Add) false false
neon_op Op.SQDMLSL i upper = DoublingLong (Some Sub) false false
neon_op Op.SQDMULL2 i upper = DoublingLong None true false
neon_op Op.SQDMLAL2 i upper = DoublingLong (Some Add) true false
neon_op Op.SQDMLSL2 i upper = DoublingLong (Some Sub) true false
neon_op Op.SQDMULLE i upper = DoublingLong None false true
neon_op Op.SQDMLALE i upper = DoublingLong (Some Add) false true
neon_op Op.SQDMLSLE i upper = DoublingLong (Some Sub) false true
neon_op Op.SQDMULL2E i upper = DoublingLong None true true
neon_op Op.SQDMLAL2E i upper = DoublingLong (Some Add) true true
neon_op Op.SQDMLSL2E i upper = DoublingLong (Some Sub) true true
neon_op Op.SUQADD i upper = MixedSignAdd true
neon_op Op.USQADD i upper = MixedSignAdd false
neon_op Op.SABD i upper = AbsoluteDifference true false
neon_op Op.UABD i upper = AbsoluteDifference false false
neon_op Op.SABA i upper = AbsoluteDifference true true
neon_op Op.UABA i upper = AbsoluteDifference false true
neon_op Op.CNT i upper = BitwiseUnary PopulationCount
neon_op Op.CLZ i upper = BitwiseUnary LeadingZeros
neon_op Op.CLS i upper = BitwiseUnary LeadingSignBits
neon_op Op.RBIT i upper = BitwiseUnary ReverseBits
neon_op Op.ADDHN i upper = HighNarrow false false upper
neon_op Op.RADDHN i upper = HighNarrow false true upper
neon_op Op.SUBHN i upper = HighNarrow true false upper
neon_op Op.RSUBHN i upper = HighNarrow true true upper

abbrev pub shape_of : Op → Arrangement → ℕ → NeonShape
shape_of o v i = record { op = neon_op o i (full v); lane_bits = bits_of_lane v; lanes = lane_count o v; source_index = record { 0 = i } }

-- `neon_value`: cut is the cutter, d the old destination, first and second are the sources
abbrev pub value_of : Cutter → NeonOp → (n k i : ℕ) (d first second : Expr) → Expr
value_of cut (Shift kind signed) n k i d first second = shift_lanes cut kind signed first second n k
value_of cut (ShiftInsert left shift) n k i d first second = shift_insert_lanes cut left shift first d n k
value_of cut (MixedSignAdd signed) n k i d first second = mixed_sign_add_lanes cut signed first d n k
value_of cut (DoublingLong combine upper by_element) n k i d first second = doubling_long_lanes cut combine upper by_element i first second d n k
value_of cut (Saturating kind signed upper) n k i d first second = saturating_lanes cut kind signed upper first second d n k
value_of cut (BitwiseUnary kind) n k i d first second = bitwise_unary_lanes cut kind first n k
value_of cut (AbsoluteDifference signed accumulate) n k i d first second = absolute_difference_lanes cut signed accumulate first second d n k
value_of cut (HighNarrow subtract rounding upper) n k i d first second = high_narrow_lanes cut subtract rounding upper first second d n k

abbrev pub neon_value : Cutter → NeonShape → (d first second : Expr) → Expr
neon_value cut s d first second = value_of cut s.op s.lane_bits s.lanes s.source_index.0 d first second

-- the term of an instruction
unfoldable pub result_tree : Cutter → Op → Arrangement → (i : ℕ) (d first second : Expr) → Expr
result_tree cut o v i d first second = neon_value cut (shape_of o v i) d first second
