-- Bit-vector terms: the kinds of the Rust's expr.rs that the lowering builds (document 01, "Pool"), numbered 1 to 19 there.
-- `Bv` has the kinds 3 to 11, which keep the width of their operands, and `Compare` the kinds 12 to 14, which are conditions.
use Rattle.std.specs.Prelude.{ℕ, suc, ◌+◌, ◌-◌}
pub use Rattle.terms.specs.declared.BinOp.{BinOp}
pub use Rattle.terms.specs.declared.BinOp.TheVariants.{Add, Sub, Mul, And, Or, Xor, Shl, LShr, AShr}
pub use Rattle.terms.specs.declared.CmpOp.{CmpOp}
pub use Rattle.terms.specs.declared.CmpOp.TheVariants.{Eq, Ult, Slt}

pub data Expr : Type 0 where
  Var : (register : ℕ) → Expr
  Const : (number bits : ℕ) → Expr
  Bv : (op : BinOp) (a b : Expr) → Expr
  Compare : (op : CmpOp) (a b : Expr) → Expr
  Ite : (condition yes no : Expr) → Expr
  Extract : (source : Expr) (hi lo : ℕ) → Expr
  Concat : (high low : Expr) → Expr
  ZeroExtend SignExtend : (source : Expr) (bits : ℕ) → Expr
  deriving Discrete as same_expr

-- the width in bits; a condition's is 0
unfoldable pub width : Expr → ℕ
width (Var r) = 128
width (Const v w) = w
width (Bv o a b) = width a
width (Compare o a b) = 0
width (Ite c a b) = width a
width (Extract a hi lo) = suc (hi - lo)
width (Concat a b) = width a + width b
width (ZeroExtend a w) = w
width (SignExtend a w) = w
