-- The Rust's neon/lower/width.rs: the high halves of sums and differences. n is the Rust's lane_bits; cut is the cutter.
use Rattle.std.specs.Prelude.{Bool, cond, ℕ, ◌-◌, ◌*◌, ◌^◌}
use Rattle.terms.specs.Expr.{Expr, Const, Bv}
use Rattle.trees.specs.Simd.{Cutter, extract_lane, concat_lanes}
use Rattle.trees.specs.Arith.{Add, Sub, plus_if, keep_lower}

-- `high_narrow_lane`
unfoldable pub high_narrow_lane : Cutter → (subtract rounding : Bool) (a b : Expr) (n : ℕ) → Expr
high_narrow_lane cut subtract rounding a b n =
    cut.bits (plus_if rounding (Bv (cond subtract Sub Add) a b) (Const (2 ^ (n - 1)) (n * 2))) (n * 2 - 1) n

-- `high_narrow_lanes`, and its lane j
abbrev pub high_at : Cutter → (subtract rounding : Bool) (n : ℕ) (a b : Expr) → ℕ → Expr
high_at cut subtract rounding n a b j = high_narrow_lane cut subtract rounding (extract_lane cut a (n * 2) j) (extract_lane cut b (n * 2) j) n

unfoldable pub high_narrow_lanes : Cutter → (subtract rounding upper : Bool) (first second d : Expr) (n k : ℕ) → Expr
high_narrow_lanes cut subtract rounding upper first second d n k = keep_lower cut upper (concat_lanes (k - 1) (high_at cut subtract rounding n first second)) d n k
