-- The Rust's neon/lower/arith.rs, function by function. n is the Rust's lane_bits; cut is the cutter (Simd.antt). A second source that a kind
-- does not use, the Rust's None, is any term here.
use Rattle.std.specs.Prelude.{Bool, true, false, cond, not, ℕ, zero, suc, max, ◌+◌, ◌-◌, ◌*◌, ◌/◌, ◌^◌, ltb}
pub use Rattle.terms.specs.declared.BinOp.{BinOp}
pub use Rattle.terms.specs.declared.BinOp.TheVariants.{Add, Sub, Mul, And, Or, Xor, Shl, LShr, AShr}
pub use Rattle.terms.specs.declared.CmpOp.{CmpOp}
pub use Rattle.terms.specs.declared.CmpOp.TheVariants.{Eq, Ult, Slt}
use Rattle.terms.specs.Expr.{Expr, Const, Bv, Compare, Ite, Concat, ZeroExtend, SignExtend}
pub use Rattle.trees.specs.declared.SaturateTo.{SaturateTo}
pub use Rattle.trees.specs.declared.SaturateTo.TheVariants.{Signed, Unsigned, SignedToUnsigned}
use Rattle.std.specs.declared.option.Option.{Option}
use Rattle.std.specs.declared.option.Option.TheVariants.{None, Some}
pub use Rattle.trees.specs.declared.ShiftKind.{ShiftKind}
pub use Rattle.trees.specs.declared.ShiftKind.TheVariants.{LeftImmediate, RightImmediate, Register}
pub use Rattle.trees.specs.declared.SaturatingKind.{SaturatingKind}
pub use Rattle.trees.specs.declared.SaturatingKind.TheVariants.{AddSub, Halving, Narrow, ShiftNarrow, DoublingMultiplyHigh, Unary}
pub use Rattle.trees.specs.declared.BitwiseUnary.{BitwiseUnary}
pub use Rattle.trees.specs.declared.BitwiseUnary.TheVariants.{PopulationCount, LeadingZeros, LeadingSignBits, ReverseBits}
use Rattle.trees.specs.Simd.{Cutter, extract_lane, concat_lanes}
use Rattle.trees.specs.Lower.{extend, unsigned_max}

abbrev pub signed_max : ℕ → ℕ
signed_max n = 2 ^ (n - 1) - 1

abbrev pub clamp_between : (value low high : Expr) → Expr
clamp_between value low high = Ite (Compare Slt value low) low (Ite (Compare Slt high value) high value)

abbrev pub clamp_below : (value high : Expr) → Expr
clamp_below value high = Ite (Compare Ult high value) high value

abbrev pub clamped : (value : Expr) (wide n : ℕ) → SaturateTo → Expr
clamped value wide n Signed = clamp_between value (Const (2 ^ wide - 2 ^ (n - 1)) wide) (Const (signed_max n) wide)
clamped value wide n Unsigned = clamp_below value (Const (unsigned_max n) wide)
clamped value wide n SignedToUnsigned = clamp_between value (Const 0 wide) (Const (unsigned_max n) wide)

-- `clamp`: value, of wide bits, brought into the range of n bits that `to` names
unfoldable pub clamp : Cutter → (value : Expr) (wide n : ℕ) → SaturateTo → Expr
clamp cut value wide n to = cut.bits (clamped value wide n to) (n - 1) 0

-- the closure `shift_by`: an arithmetic or a logical shift to the right
abbrev pub shift_by : Bool → Expr → Expr → Expr
shift_by signed v by = Bv (cond signed AShr LShr) v by

-- with a constant added if rounding is asked
abbrev pub plus_if : Bool → Expr → Expr → Expr
plus_if rounding v c = cond rounding (Bv Add v c) v

-- a shifting narrow, rounding or not, is computed with one bit more than its source, and a doubled product with one more than the product
abbrev pub narrow_bits : ℕ → ℕ
narrow_bits n = n * 2 + 1

abbrev pub doubled_bits : ℕ → ℕ
doubled_bits n = n * 2 + 1

abbrev pub narrowed : Cutter → (value : Expr) (wide n : ℕ) → Option SaturateTo → Expr
narrowed cut value wide n None = cut.bits value (n - 1) 0
narrowed cut value wide n (Some to) = clamp cut value wide n to

abbrev pub negated : Bool → Expr → ℕ → Expr
negated negate value wide = let minus = Bv Sub (Const 0 wide) value in cond negate minus (Ite (Compare Slt value (Const 0 wide)) minus value)

-- ---- the exact values that lanes clamp, at a width where they cannot overflow

-- two lanes, each widened by its own sign, under one operator
abbrev pub joined : BinOp → (a : Expr) (sa : Bool) (b : Expr) (sb : Bool) (wide : ℕ) → Expr
joined op a sa b sb wide = Bv op (extend a wide sa) (extend b wide sb)

-- the doubled product of two signed lanes
abbrev pub twice : (a b : Expr) (wide : ℕ) → Expr
twice a b wide = Bv Shl (joined Mul a true b true wide) (Const 1 wide)

abbrev pub shifted : (signed rounding : Bool) (v : Expr) (half shift wide : ℕ) → Expr
shifted signed rounding v half shift wide = shift_by signed (plus_if rounding v (Const half wide)) (Const shift wide)

abbrev pub scaled : (v : Expr) (shift wide : ℕ) → Expr
scaled v shift wide = Bv Shl (SignExtend v wide) (Const shift wide)

-- what `saturating_lane` clamps or cuts, its bits, and the range that it is clamped into
abbrev pub exact_lane : SaturatingKind → (a b : Expr) (n : ℕ) (signed : Bool) → Expr
exact_lane (AddSub op to) a b n signed = joined op a signed b signed (n + 1)
exact_lane (Halving rounding) a b n signed = shifted signed rounding (joined Add a signed b signed (n + 1)) 1 1 (n + 1)
exact_lane (Narrow to) a b n signed = a
exact_lane (ShiftNarrow shift rounding to) a b n signed = shifted signed rounding (extend a (narrow_bits n) signed) (2 ^ (shift - 1)) shift (narrow_bits n)
exact_lane (DoublingMultiplyHigh rounding) a b n signed = shifted true rounding (twice a b (doubled_bits n)) (2 ^ (n - 1)) n (doubled_bits n)
exact_lane (Unary negate) a b n signed = negated negate (extend a (n + 1) true) (n + 1)

abbrev pub exact_bits : SaturatingKind → ℕ → ℕ
exact_bits (AddSub op to) n = n + 1
exact_bits (Halving rounding) n = n + 1
exact_bits (Narrow to) n = n * 2
exact_bits (ShiftNarrow shift rounding to) n = narrow_bits n
exact_bits (DoublingMultiplyHigh rounding) n = doubled_bits n
exact_bits (Unary negate) n = n + 1

abbrev pub kind_to : SaturatingKind → Option SaturateTo
kind_to (AddSub op to) = Some to
kind_to (Halving rounding) = None
kind_to (Narrow to) = Some to
kind_to (ShiftNarrow shift rounding to) = to
kind_to (DoublingMultiplyHigh rounding) = Some Signed
kind_to (Unary negate) = Some Signed

-- `saturating_lane`
unfoldable pub saturating_lane : Cutter → SaturatingKind → (a b : Expr) (n : ℕ) (signed : Bool) → Expr
saturating_lane cut kind a b n signed = narrowed cut (exact_lane kind a b n signed) (exact_bits kind n) n (kind_to kind)

-- `shift_right`: `most` is the largest amount, which sizes the sum of a rounding shift
abbrev pub rounding_bits : ℕ → ℕ → ℕ
rounding_bits n most = max n most + 1

unfoldable pub shift_right : Cutter → (value amount : Expr) (n : ℕ) (signed rounding : Bool) (most : ℕ) → Expr
shift_right cut value amount n signed false most = shift_by signed value amount
shift_right cut value amount n signed true most =
    let wide = rounding_bits n most in
    let by = ZeroExtend amount wide in
    let half = Bv Shl (Const 1 wide) (Bv Sub by (Const 1 wide)) in
    cut.bits (shift_by signed (Bv Add (extend value wide signed) half) by) (n - 1) 0

-- `saturating_shift_left`
abbrev pub shift_bound : (value : Expr) (n : ℕ) (signed : Bool) → Expr
shift_bound value n true = Ite (Compare Slt value (Const 0 n)) (Const (2 ^ (n - 1)) n) (Const (signed_max n) n)
shift_bound value n false = Const (unsigned_max n) n

unfoldable pub saturating_shift_left : (value amount : Expr) (n : ℕ) (signed : Bool) → Expr
saturating_shift_left value amount n signed =
    let left = Bv Shl value amount in
    Ite (Compare Eq (shift_by signed left amount) value) left (shift_bound value n signed)

abbrev pub register_shift_max : ℕ
register_shift_max = 128

-- SQSHLU is computed with room for the exact product and one bit for its sign
abbrev pub left_immediate : Cutter → (saturate : Option SaturateTo) (value : Expr) (shift n : ℕ) (signed : Bool) → Expr
left_immediate cut None value shift n signed = Bv Shl value (Const shift n)
left_immediate cut (Some Signed) value shift n signed = saturating_shift_left value (Const shift n) n signed
left_immediate cut (Some Unsigned) value shift n signed = saturating_shift_left value (Const shift n) n signed
left_immediate cut (Some SignedToUnsigned) value shift n signed =
    let wide = n + shift + 1 in
    clamp cut (scaled value shift wide) wide n SignedToUnsigned

-- the signed low byte of a register shift's amount
abbrev pub signed_amount : Cutter → Expr → ℕ → Expr
signed_amount cut raw n = cond (ltb 8 n) (SignExtend (cut.bits raw 7 0) n) raw

abbrev pub left_by : (saturate : Bool) (value amount : Expr) (n : ℕ) (signed : Bool) → Expr
left_by saturate value amount n signed = cond saturate (saturating_shift_left value amount n signed) (Bv Shl value amount)

-- `shift_lane`; `by` is the signed amount of a register shift
abbrev pub shifted_by : Cutter → ShiftKind → (signed : Bool) (value by : Expr) (n : ℕ) → Expr
shifted_by cut (LeftImmediate shift saturate) signed value by n = left_immediate cut saturate value shift n signed
shifted_by cut (RightImmediate shift rounding) signed value by n = shift_right cut value (Const shift n) n signed rounding shift
shifted_by cut (Register rounding saturate) signed value by n =
    Ite (Compare Slt by (Const 0 n)) (shift_right cut value (Bv Sub (Const 0 n) by) n signed rounding register_shift_max) (left_by saturate value by n signed)

unfoldable pub shift_lane : Cutter → ShiftKind → (signed : Bool) (value amount : Expr) (n : ℕ) → Expr
shift_lane cut kind signed value amount n = shifted_by cut kind signed value (signed_amount cut amount n) n

-- what bit j makes of t, which the bits below it made
abbrev pub zeros_at : Cutter → (n : ℕ) (v : Expr) → ℕ → Expr → Expr
zeros_at cut n v j t = Ite (Compare Eq (cut.bits v j j) (Const 1 1)) (Const (n - 1 - j) n) t

abbrev pub count_bit_at : Cutter → (n : ℕ) (v : Expr) → ℕ → Expr → Expr
count_bit_at cut n v j t = Bv Add t (ZeroExtend (cut.bits v j j) n)

-- `leading_zeros`, of the bits below k: the test of bit k - 1 is outermost
unfoldable pub leading_zeros : Cutter → Expr → ℕ → ℕ → Expr
leading_zeros cut v n zero = Const n n
leading_zeros cut v n (suc k) = zeros_at cut n v k (leading_zeros cut v n k)

-- the sum of the bits below k
unfoldable pub population_count : Cutter → Expr → ℕ → ℕ → Expr
population_count cut v n zero = Const 0 n
population_count cut v n (suc k) = count_bit_at cut n v k (population_count cut v n k)

-- `bitwise_unary_lane`
unfoldable pub bitwise_unary_lane : Cutter → BitwiseUnary → Expr → ℕ → Expr
bitwise_unary_lane cut PopulationCount v n = population_count cut v n n
bitwise_unary_lane cut LeadingZeros v n = leading_zeros cut v n n
bitwise_unary_lane cut LeadingSignBits v n =
    ZeroExtend (leading_zeros cut (Bv Xor (cut.bits v (n - 1) 1) (cut.bits v (n - 1 - 1) 0)) (n - 1) (n - 1)) n
bitwise_unary_lane cut ReverseBits v n = concat_lanes (n - 1) (λ j. cut.bits v (n - 1 - j) (n - 1 - j))

-- `absolute_difference_lane`
unfoldable pub absolute_difference_lane : Bool → Expr → Expr → Expr
absolute_difference_lane signed a b = Ite (Compare (cond signed Slt Ult) a b) (Bv Sub b a) (Bv Sub a b)

-- the bits of d that SLI and SRI keep: `low_bits(shift)`, and `unsigned_max(n) ^ low_bits(n - shift)`
abbrev pub kept_bits : Bool → ℕ → ℕ → ℕ
kept_bits left n shift = cond left (2 ^ shift - 1) (2 ^ n - 2 ^ (n - shift))

-- the shifted lane over the bits of d that `kept` names
abbrev pub inserted : (left : Bool) (kept n : ℕ) (d a amount : Expr) → Expr
inserted left kept n d a amount = Bv Or (Bv (cond left Shl LShr) a amount) (Bv And d (Const kept n))

unfoldable pub shift_insert_lane : (left : Bool) (d a : Expr) (shift n : ℕ) → Expr
shift_insert_lane left d a shift n = inserted left (kept_bits left n shift) n d a (Const shift n)

-- a sum that can be negative is clamped into the unsigned range as a signed one
unfoldable pub mixed_sign_add_lane : Cutter → (signed : Bool) (d a : Expr) (n : ℕ) → Expr
mixed_sign_add_lane cut signed d a n =
    let wide = n + 2 in
    clamp cut (joined Add d signed a (not signed) wide) wide n (cond signed Signed SignedToUnsigned)

unfoldable pub doubling_product : Cutter → (a b : Expr) (n : ℕ) → Expr
doubling_product cut a b n = clamp cut (twice a b (n + 1)) (n + 1) n Signed

-- a product joined to d, under a second clamp
abbrev pub combined : Cutter → Option BinOp → (d product : Expr) (n : ℕ) → Expr
combined cut None d product n = product
combined cut (Some op) d product n = clamp cut (joined op d true product true (n + 1)) (n + 1) n Signed

unfoldable pub doubling_long_lane : Cutter → Option BinOp → (d a b : Expr) (n : ℕ) → Expr
doubling_long_lane cut combine d a b n = combined cut combine d (doubling_product cut a b n) n

abbrev pub accumulated : Bool → Expr → Expr → Expr
accumulated accumulate d difference = cond accumulate (Bv Add d difference) difference

-- ---- whole vectors of k lanes: a and b are the sources, d the old destination, and ..At is lane j of the loop

-- `shift_lanes`
abbrev pub shift_at : Cutter → ShiftKind → (signed : Bool) (n : ℕ) (a b : Expr) → ℕ → Expr
shift_at cut kind signed n a b j = shift_lane cut kind signed (extract_lane cut a n j) (extract_lane cut b n j) n

unfoldable pub shift_lanes : Cutter → ShiftKind → (signed : Bool) (first second : Expr) (n k : ℕ) → Expr
shift_lanes cut kind signed first second n k = concat_lanes (k - 1) (shift_at cut kind signed n first second)

-- `shift_insert_lanes`
abbrev pub insert_at : Cutter → (left : Bool) (kept n : ℕ) (d a amount : Expr) → ℕ → Expr
insert_at cut left kept n d a amount j = inserted left kept n (extract_lane cut d n j) (extract_lane cut a n j) amount

unfoldable pub shift_insert_lanes : Cutter → (left : Bool) (shift : ℕ) (first d : Expr) (n k : ℕ) → Expr
shift_insert_lanes cut left shift first d n k = concat_lanes (k - 1) (insert_at cut left (kept_bits left n shift) n d first (Const shift n))

-- `mixed_sign_add_lanes`
abbrev pub mixed_at : Cutter → (signed : Bool) (n : ℕ) (d a : Expr) → ℕ → Expr
mixed_at cut signed n d a j = mixed_sign_add_lane cut signed (extract_lane cut d n j) (extract_lane cut a n j) n

unfoldable pub mixed_sign_add_lanes : Cutter → (signed : Bool) (first d : Expr) (n k : ℕ) → Expr
mixed_sign_add_lanes cut signed first d n k = concat_lanes (k - 1) (mixed_at cut signed n d first)

-- `doubling_long_lanes`: the source lanes, upper ones from lane k on; the element has number i
abbrev pub source_lane : Bool → ℕ → ℕ → ℕ
source_lane upper k j = cond upper (j + k) j

-- b is the lane of the second source, or its element
abbrev pub doubling_at : Cutter → Option BinOp → (upper : Bool) (n k : ℕ) (d a b : Expr) → ℕ → Expr
doubling_at cut combine upper n k d a b j = doubling_long_lane cut combine (extract_lane cut d n j) (extract_lane cut a (n / 2) (source_lane upper k j)) b n

unfoldable pub doubling_long_lanes : Cutter → Option BinOp → (upper by_element : Bool) (i : ℕ) (first second d : Expr) (n k : ℕ) → Expr
doubling_long_lanes cut combine upper by_element i first second d n k =
    concat_lanes (k - 1) λ j. doubling_at cut combine upper n k d first (extract_lane cut second (n / 2) (cond by_element i (source_lane upper k j))) j

-- `saturating_lanes`
abbrev pub narrowing : SaturatingKind → Bool
narrowing (AddSub op to) = false
narrowing (Halving rounding) = false
narrowing (Narrow to) = true
narrowing (ShiftNarrow shift rounding to) = true
narrowing (DoublingMultiplyHigh rounding) = false
narrowing (Unary negate) = false

-- the bits of a source lane
abbrev pub kind_bits : SaturatingKind → ℕ → ℕ
kind_bits kind n = cond (narrowing kind) (n * 2) n

abbrev pub saturating_at : Cutter → SaturatingKind → (signed : Bool) (n : ℕ) (a b : Expr) → ℕ → Expr
saturating_at cut kind signed n a b j = saturating_lane cut kind (extract_lane cut a (kind_bits kind n) j) (extract_lane cut b (kind_bits kind n) j) n signed

-- a narrowing "2" form keeps the lower half of d
abbrev pub keep_lower : Cutter → (upper : Bool) (new d : Expr) (n k : ℕ) → Expr
keep_lower cut upper new d n k = cond upper (Concat new (cut.bits d (n * k - 1) 0)) new

unfoldable pub saturating_lanes : Cutter → SaturatingKind → (signed upper : Bool) (first second d : Expr) (n k : ℕ) → Expr
saturating_lanes cut kind signed upper first second d n k = keep_lower cut upper (concat_lanes (k - 1) (saturating_at cut kind signed n first second)) d n k

-- `bitwise_unary_lanes`
abbrev pub bitwise_at : Cutter → BitwiseUnary → (n : ℕ) (a : Expr) → ℕ → Expr
bitwise_at cut kind n a j = bitwise_unary_lane cut kind (extract_lane cut a n j) n

unfoldable pub bitwise_unary_lanes : Cutter → BitwiseUnary → (first : Expr) (n k : ℕ) → Expr
bitwise_unary_lanes cut kind first n k = concat_lanes (k - 1) (bitwise_at cut kind n first)

-- `absolute_difference_lanes`
abbrev pub difference_at : Cutter → (signed accumulate : Bool) (n : ℕ) (d a b : Expr) → ℕ → Expr
difference_at cut signed accumulate n d a b j =
    accumulated accumulate (extract_lane cut d n j) (absolute_difference_lane signed (extract_lane cut a n j) (extract_lane cut b n j))

unfoldable pub absolute_difference_lanes : Cutter → (signed accumulate : Bool) (first second d : Expr) (n k : ℕ) → Expr
absolute_difference_lanes cut signed accumulate first second d n k = concat_lanes (k - 1) (difference_at cut signed accumulate n d first second)
