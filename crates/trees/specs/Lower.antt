-- The Rust's neon/lower.rs: what several families use.
use Rattle.std.specs.Prelude.{Bool, cond, ℕ, ◌-◌, ◌^◌}
use Rattle.terms.specs.Expr.{Expr, ZeroExtend, SignExtend}

-- `extend`
abbrev pub extend : Expr → ℕ → Bool → Expr
extend v to signed = cond signed (SignExtend v to) (ZeroExtend v to)

-- `unsigned_max`
abbrev pub unsigned_max : ℕ → ℕ
unsigned_max bits = 2 ^ bits - 1
