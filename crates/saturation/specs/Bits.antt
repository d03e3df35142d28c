-- The one-bit term of a lane, 1 exactly when it saturates; of an instruction; of a block. The Rust has none of these.
use Rattle.std.specs.Prelude.{Bool, true, false, cond, not, List, [], ◌∷◌, ℕ, ◌+◌, ◌-◌, ◌^◌}
use Rattle.terms.specs.Expr.{Expr, Var, Const, Bv, Compare, Ite}
use Rattle.neon.specs.declared.Instruction.{Instruction}
use Rattle.trees.specs.declared.NeonOp.{NeonOp}
use Rattle.trees.specs.declared.NeonOp.TheVariants.{Shift, ShiftInsert, MixedSignAdd, DoublingLong, Saturating, BitwiseUnary, AbsoluteDifference, HighNarrow}
use Rattle.trees.specs.Lower.{unsigned_max}
use Rattle.neon.specs.Op.{Op, Arrangement, op_at, arrangement_at, bits_of_lane, full}
use Rattle.neon.specs.Form.{form, first_full, second_full, by_element, source_bits, lane_count, first_lane, second_lane}
use Rattle.trees.specs.Simd.{concat_lanes}
use Rattle.trees.specs.Neon.{neon_op}
use Rattle.terms.specs.declared.BinOp.TheVariants.{Add, Or, Shl}
use Rattle.terms.specs.declared.CmpOp.TheVariants.{Eq, Ult, Slt}
use Rattle.trees.specs.declared.SaturateTo.{SaturateTo}
use Rattle.trees.specs.declared.SaturateTo.TheVariants.{Signed, Unsigned, SignedToUnsigned}
use Rattle.std.specs.declared.option.Option.{Option}
use Rattle.terms.specs.declared.BinOp.{BinOp}
use Rattle.std.specs.declared.option.Option.TheVariants.{None, Some}
use Rattle.trees.specs.declared.ShiftKind.{ShiftKind}
use Rattle.trees.specs.declared.ShiftKind.TheVariants.{LeftImmediate, RightImmediate, Register}
use Rattle.trees.specs.declared.SaturatingKind.{SaturatingKind}
use Rattle.trees.specs.Arith.{signed_max, shift_by, joined, twice, scaled, exact_lane, exact_bits, kind_to}
use Rattle.trees.specs.Trees.{extract_lane, read_tree, tree_step, signed_amount, doubling_product}

abbrev pub no : Expr
no = Const 0 1

abbrev pub yes : Expr
yes = Const 1 1

-- the tests of `clamped`, with a bit in the place of each result
abbrev pub clipped_between : (value low high : Expr) → Expr
clipped_between value low high = Ite (Compare Slt value low) yes (Ite (Compare Slt high value) yes no)

abbrev pub clipped_above : (value high : Expr) → Expr
clipped_above value high = Ite (Compare Ult high value) yes no

-- whether value, of wide bits, is outside the range of n bits that `to` names
unfoldable pub clipped : (value : Expr) (wide n : ℕ) → SaturateTo → Expr
clipped value wide n Signed = clipped_between value (Const (2 ^ wide - 2 ^ (n - 1)) wide) (Const (signed_max n) wide)
clipped value wide n Unsigned = clipped_above value (Const (unsigned_max n) wide)
clipped value wide n SignedToUnsigned = clipped_between value (Const 0 wide) (Const (unsigned_max n) wide)

-- whether a shift to the left loses bits: the test of `saturating_shift_left`
unfoldable pub lost : (value amount : Expr) (signed : Bool) → Expr
lost value amount signed = Ite (Compare Eq (shift_by signed (Bv Shl value amount) amount) value) no yes

-- of a lane of `saturating_lane`
abbrev pub narrow_bit : (value : Expr) (wide n : ℕ) → Option SaturateTo → Expr
narrow_bit value wide n None = no
narrow_bit value wide n (Some to) = clipped value wide n to

unfoldable pub saturating_bit : SaturatingKind → (a b : Expr) (n : ℕ) (signed : Bool) → Expr
saturating_bit kind a b n signed = narrow_bit (exact_lane kind a b n signed) (exact_bits kind n) n (kind_to kind)

-- of a lane of `shift_lane`: a shift to the right does not saturate
abbrev pub left_bit : (saturate : Option SaturateTo) (value : Expr) (shift n : ℕ) (signed : Bool) → Expr
left_bit None value shift n signed = no
left_bit (Some Signed) value shift n signed = lost value (Const shift n) signed
left_bit (Some Unsigned) value shift n signed = lost value (Const shift n) signed
left_bit (Some SignedToUnsigned) value shift n signed =
    let wide = n + shift + 1 in
    clipped (scaled value shift wide) wide n SignedToUnsigned

-- `by` is the signed amount of a register shift
abbrev pub shifted_bit : ShiftKind → (signed : Bool) (value by : Expr) (n : ℕ) → Expr
shifted_bit (LeftImmediate shift saturate) signed value by n = left_bit saturate value shift n signed
shifted_bit (RightImmediate shift rounding) signed value by n = no
shifted_bit (Register rounding saturate) signed value by n = cond saturate (Ite (Compare Slt by (Const 0 n)) no (lost value by signed)) no

unfoldable pub shift_bit : ShiftKind → (signed : Bool) (value amount : Expr) (n : ℕ) → Expr
shift_bit kind signed value amount n = shifted_bit kind signed value (signed_amount amount n) n

-- of a lane of `mixed_sign_add_lanes`, and of `doubling_long_lanes`: either clamp
unfoldable pub mixed_sign_bit : (signed : Bool) (d a : Expr) (n : ℕ) → Expr
mixed_sign_bit signed d a n =
    let wide = n + 2 in
    clipped (joined Add d signed a (not signed) wide) wide n (cond signed Signed SignedToUnsigned)

abbrev pub product_bit : (a b : Expr) (n : ℕ) → Expr
product_bit a b n = clipped (twice a b (n + 1)) (n + 1) n Signed

unfoldable pub doubling_long_bit : Option BinOp → (d a b : Expr) (n : ℕ) → Expr
doubling_long_bit None d a b n = product_bit a b n
doubling_long_bit (Some op) d a b n =
    Bv Or (product_bit a b n) (clipped (joined op d true (doubling_product a b n) true (n + 1)) (n + 1) n Signed)

-- the bit of one lane of a family, `no` for those that never saturate
abbrev pub lane_bit : NeonOp → (n : ℕ) (d a b : Expr) → Expr
lane_bit (Shift kind signed) n d a b = shift_bit kind signed a b n
lane_bit (ShiftInsert left shift) n d a b = no
lane_bit (MixedSignAdd signed) n d a b = mixed_sign_bit signed d a n
lane_bit (DoublingLong combine upper element) n d a b = doubling_long_bit combine d a b n
lane_bit (Saturating kind signed upper) n d a b = saturating_bit kind a b n signed
lane_bit (BitwiseUnary kind) n d a b = no
lane_bit (AbsoluteDifference signed accumulate) n d a b = no
lane_bit (HighNarrow subtract rounding upper) n d a b = no

-- an instruction of k lanes: the bits of its lanes side by side are not all 0; else what the block's term was before it
unfoldable pub instruction_bit : (k : ℕ) (bits : ℕ → Expr) (before : Expr) → Expr
instruction_bit k bits before = Ite (Compare Eq (concat_lanes (k - 1) bits) (Const 0 k)) before yes

-- the families that can saturate: operations 2 to 4, 13 to 16, 19 to 22, 27 to 29 and 32 to 55
abbrev pub saturable_to : Option SaturateTo → Bool
saturable_to None = false
saturable_to (Some to) = true

abbrev pub saturable_shift : ShiftKind → Bool
saturable_shift (LeftImmediate shift saturate) = saturable_to saturate
saturable_shift (RightImmediate shift rounding) = false
saturable_shift (Register rounding saturate) = saturate

abbrev pub saturable_kind : SaturatingKind → Bool
saturable_kind kind = saturable_to (kind_to kind)

abbrev pub saturable : NeonOp → Bool
saturable (Shift kind signed) = saturable_shift kind
saturable (ShiftInsert left shift) = false
saturable (MixedSignAdd signed) = true
saturable (DoublingLong combine upper element) = true
saturable (Saturating kind signed upper) = saturable_kind kind
saturable (BitwiseUnary kind) = false
saturable (AbsoluteDifference signed accumulate) = false
saturable (HighNarrow subtract rounding upper) = false

-- the bit of lane j, over the sources of an instruction
unfoldable pub bit_at : Op → Arrangement → (i : ℕ) (d a b : Expr) (j : ℕ) → Expr
bit_at o v i d a b j =
    let n = bits_of_lane v in
    let l = (form o).lanes in
    lane_bit (neon_op o i (full v)) n (extract_lane d n j) (extract_lane a (source_bits l n) (first_lane l (lane_count o v) j))
    (extract_lane b (source_bits l n) (second_lane l (by_element o) (lane_count o v) i j))

-- the block's term after an instruction, over the term before it
unfoldable pub saturation_tree : Op → Arrangement → (i : ℕ) (d a b before : Expr) → Expr
saturation_tree o v i d a b before = cond (saturable (neon_op o i (full v))) (instruction_bit (lane_count o v) (bit_at o v i d a b) before) before

-- after a record, over the terms that the registers have before it
unfoldable pub record_bit : Instruction → (ℕ → Expr) → Expr → Expr
record_bit c regs before =
    let o = op_at c.operation in
    let v = arrangement_at c.arrangement in
    let l = (form o).lanes in
    saturation_tree o v c.i (read_tree (full v) (regs c.d)) (read_tree (first_full l (full v)) (regs c.n))
    (read_tree (second_full l (by_element o) (full v)) (regs c.m)) before

unfoldable pub bit_run : List Instruction → (ℕ → Expr) → Expr → Expr
bit_run [] regs before = before
bit_run (c ∷ cs) regs before = bit_run cs (tree_step c regs) (record_bit c regs before)

-- the term of a block: the constant 0 of one bit for an empty one
abbrev pub block_bit : List Instruction → Expr
block_bit cs = bit_run cs Var no
