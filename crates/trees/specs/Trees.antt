-- The trees of this port: the Rust's functions with the cutter that joins (document 02, S-8). Contracts and theorems speak of these; the definitions
-- are in Simd, Arith, Width, Neon and Block under the same names. The Rust's own trees are in Rust.antt.
use Rattle.std.specs.declared.option.Option.{Option}
use Rattle.terms.specs.declared.BinOp.{BinOp}
use Rattle.std.specs.Prelude.{Bool, List, ℕ}
use Rattle.terms.specs.Expr.{Expr}
use Rattle.neon.specs.declared.Instruction.{Instruction}
use Rattle.neon.specs.Op.{Op, Arrangement}
use Rattle.trees.specs.declared.NeonOp.{NeonOp}
use Rattle.trees.specs.declared.NeonShape.{NeonShape}
use Rattle.trees.specs.Simd.{joining}
use Rattle.trees.specs.Arith.{SaturateTo, ShiftKind, SaturatingKind, BitwiseUnary}
use Rattle.trees.specs.Simd as Simd
use Rattle.trees.specs.Arith as Arith
use Rattle.trees.specs.Width as Width
use Rattle.trees.specs.Neon as Neon
use Rattle.trees.specs.Block as Block

-- ---- simd.rs

abbrev pub extract_lane : Expr → ℕ → ℕ → Expr
extract_lane = Simd.extract_lane joining

-- ---- arith.rs

abbrev pub clamp : (value : Expr) (wide n : ℕ) → SaturateTo → Expr
clamp = Arith.clamp joining

abbrev pub narrowed : (value : Expr) (wide n : ℕ) → Option SaturateTo → Expr
narrowed = Arith.narrowed joining

abbrev pub saturating_lane : SaturatingKind → (a b : Expr) (n : ℕ) (signed : Bool) → Expr
saturating_lane = Arith.saturating_lane joining

abbrev pub shift_right : (value amount : Expr) (n : ℕ) (signed rounding : Bool) (most : ℕ) → Expr
shift_right = Arith.shift_right joining

abbrev pub left_immediate : (saturate : Option SaturateTo) (value : Expr) (shift n : ℕ) (signed : Bool) → Expr
left_immediate = Arith.left_immediate joining

abbrev pub signed_amount : Expr → ℕ → Expr
signed_amount = Arith.signed_amount joining

abbrev pub shifted_by : ShiftKind → (signed : Bool) (value by : Expr) (n : ℕ) → Expr
shifted_by = Arith.shifted_by joining

abbrev pub shift_lane : ShiftKind → (signed : Bool) (value amount : Expr) (n : ℕ) → Expr
shift_lane = Arith.shift_lane joining

abbrev pub zeros_at : (n : ℕ) (v : Expr) → ℕ → Expr → Expr
zeros_at = Arith.zeros_at joining

abbrev pub count_bit_at : (n : ℕ) (v : Expr) → ℕ → Expr → Expr
count_bit_at = Arith.count_bit_at joining

abbrev pub leading_zeros : Expr → ℕ → ℕ → Expr
leading_zeros = Arith.leading_zeros joining

abbrev pub population_count : Expr → ℕ → ℕ → Expr
population_count = Arith.population_count joining

abbrev pub bitwise_unary_lane : BitwiseUnary → Expr → ℕ → Expr
bitwise_unary_lane = Arith.bitwise_unary_lane joining

abbrev pub mixed_sign_add_lane : (signed : Bool) (d a : Expr) (n : ℕ) → Expr
mixed_sign_add_lane = Arith.mixed_sign_add_lane joining

abbrev pub doubling_product : (a b : Expr) (n : ℕ) → Expr
doubling_product = Arith.doubling_product joining

abbrev pub combined : Option BinOp → (d product : Expr) (n : ℕ) → Expr
combined = Arith.combined joining

abbrev pub doubling_long_lane : Option BinOp → (d a b : Expr) (n : ℕ) → Expr
doubling_long_lane = Arith.doubling_long_lane joining

abbrev pub shift_at : ShiftKind → (signed : Bool) (n : ℕ) (a b : Expr) → ℕ → Expr
shift_at = Arith.shift_at joining

abbrev pub shift_lanes : ShiftKind → (signed : Bool) (first second : Expr) (n k : ℕ) → Expr
shift_lanes = Arith.shift_lanes joining

abbrev pub insert_at : (left : Bool) (kept n : ℕ) (d a amount : Expr) → ℕ → Expr
insert_at = Arith.insert_at joining

abbrev pub shift_insert_lanes : (left : Bool) (shift : ℕ) (first d : Expr) (n k : ℕ) → Expr
shift_insert_lanes = Arith.shift_insert_lanes joining

abbrev pub mixed_at : (signed : Bool) (n : ℕ) (d a : Expr) → ℕ → Expr
mixed_at = Arith.mixed_at joining

abbrev pub mixed_sign_add_lanes : (signed : Bool) (first d : Expr) (n k : ℕ) → Expr
mixed_sign_add_lanes = Arith.mixed_sign_add_lanes joining

abbrev pub doubling_at : Option BinOp → (upper : Bool) (n k : ℕ) (d a b : Expr) → ℕ → Expr
doubling_at = Arith.doubling_at joining

abbrev pub doubling_long_lanes : Option BinOp → (upper by_element : Bool) (i : ℕ) (first second d : Expr) (n k : ℕ) → Expr
doubling_long_lanes = Arith.doubling_long_lanes joining

abbrev pub saturating_at : SaturatingKind → (signed : Bool) (n : ℕ) (a b : Expr) → ℕ → Expr
saturating_at = Arith.saturating_at joining

abbrev pub keep_lower : (upper : Bool) (new d : Expr) (n k : ℕ) → Expr
keep_lower = Arith.keep_lower joining

abbrev pub saturating_lanes : SaturatingKind → (signed upper : Bool) (first second d : Expr) (n k : ℕ) → Expr
saturating_lanes = Arith.saturating_lanes joining

abbrev pub bitwise_at : BitwiseUnary → (n : ℕ) (a : Expr) → ℕ → Expr
bitwise_at = Arith.bitwise_at joining

abbrev pub bitwise_unary_lanes : BitwiseUnary → (first : Expr) (n k : ℕ) → Expr
bitwise_unary_lanes = Arith.bitwise_unary_lanes joining

abbrev pub difference_at : (signed accumulate : Bool) (n : ℕ) (d a b : Expr) → ℕ → Expr
difference_at = Arith.difference_at joining

abbrev pub absolute_difference_lanes : (signed accumulate : Bool) (first second d : Expr) (n k : ℕ) → Expr
absolute_difference_lanes = Arith.absolute_difference_lanes joining

-- ---- width.rs

abbrev pub high_narrow_lane : (subtract rounding : Bool) (a b : Expr) (n : ℕ) → Expr
high_narrow_lane = Width.high_narrow_lane joining

abbrev pub high_at : (subtract rounding : Bool) (n : ℕ) (a b : Expr) → ℕ → Expr
high_at = Width.high_at joining

abbrev pub high_narrow_lanes : (subtract rounding upper : Bool) (first second d : Expr) (n k : ℕ) → Expr
high_narrow_lanes = Width.high_narrow_lanes joining

-- ---- lower.rs

abbrev pub value_of : NeonOp → (n k i : ℕ) (d first second : Expr) → Expr
value_of = Neon.value_of joining

abbrev pub neon_value : NeonShape → (d first second : Expr) → Expr
neon_value = Neon.neon_value joining

abbrev pub result_tree : Op → Arrangement → (i : ℕ) (d first second : Expr) → Expr
result_tree = Neon.result_tree joining

-- ---- a block

abbrev pub read_tree : Bool → Expr → Expr
read_tree = Block.read_tree joining

abbrev pub record_tree : Instruction → (ℕ → Expr) → Expr
record_tree = Block.record_tree joining

abbrev pub tree_step : Instruction → (ℕ → Expr) → ℕ → Expr
tree_step = Block.tree_step joining

abbrev pub tree_run : List Instruction → (ℕ → Expr) → ℕ → Expr
tree_run = Block.tree_run joining
