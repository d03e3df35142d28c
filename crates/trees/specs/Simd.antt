-- The Rust's lift/simd.rs: cuts, and lanes put together. Each family takes a cutter, the way in which it cuts. The Rust has one, this port has
-- another (document 02, S-8), and nothing else about a tree differs between the two.
use Rattle.std.specs.Prelude.{Bool, cond, ◌&&◌, ℕ, zero, suc, ◌+◌, ◌-◌, ◌*◌, leb, eqb}
use Rattle.terms.specs.Expr.{Expr, Var, Const, Bv, Compare, Ite, Extract, Concat, ZeroExtend, SignExtend}

-- how a lane is cut out of a vector (`lane`), and how other bits are cut (`bits`): of a lane, of a wider result, of a register's low half. A cut has
-- the bits hi to lo.
pub record Cutter : Type 0 where
  pub lane : Expr → (hi lo : ℕ) → Expr
  pub bits : Expr → (hi lo : ℕ) → Expr

-- ---- the Rust's cutter

-- the Rust's `extract_collapsing`: a cut inside a cut from bit 0 is a cut of what that one is cut from; this is done once, and other cuts stay
abbrev pub extract_once : Expr → (hi lo : ℕ) → Expr
extract_once (Extract x innerHi innerLo) hi lo =
    cond (eqb innerLo 0 && leb hi innerHi) (Extract x hi lo) (Extract (Extract x innerHi innerLo) hi lo)
extract_once (Var r) hi lo = Extract (Var r) hi lo
extract_once (Const v w) hi lo = Extract (Const v w) hi lo
extract_once (Bv o a b) hi lo = Extract (Bv o a b) hi lo
extract_once (Compare o a b) hi lo = Extract (Compare o a b) hi lo
extract_once (Ite c a b) hi lo = Extract (Ite c a b) hi lo
extract_once (Concat a b) hi lo = Extract (Concat a b) hi lo
extract_once (ZeroExtend a w) hi lo = Extract (ZeroExtend a w) hi lo
extract_once (SignExtend a w) hi lo = Extract (SignExtend a w) hi lo

-- lanes by `extract_collapsing`, all else by `Expr::extract`
abbrev pub rust : Cutter
rust = record { lane = extract_once; bits = λ x hi lo. Extract x hi lo }

-- ---- the cutter of this port

-- whether a cut up to hi lies inside the cut from innerHi to innerLo that it is made of; of a term that keeps the rules every cut does
abbrev pub inside : (hi innerHi innerLo : ℕ) → Bool
inside hi innerHi innerLo = leb (hi + innerLo) innerHi

-- a cut of a cut rises by the inner lo, until its operand is no Extract. What joining leaves is said in Joined.antt.
abbrev pub extract_collapsing : Expr → ℕ → ℕ → Expr
extract_collapsing (Extract x innerHi innerLo) hi lo =
    cond (inside hi innerHi innerLo) (extract_collapsing x (hi + innerLo) (lo + innerLo)) (Extract (Extract x innerHi innerLo) hi lo)
extract_collapsing (Var r) hi lo = Extract (Var r) hi lo
extract_collapsing (Const v w) hi lo = Extract (Const v w) hi lo
extract_collapsing (Bv o a b) hi lo = Extract (Bv o a b) hi lo
extract_collapsing (Compare o a b) hi lo = Extract (Compare o a b) hi lo
extract_collapsing (Ite c a b) hi lo = Extract (Ite c a b) hi lo
extract_collapsing (Concat a b) hi lo = Extract (Concat a b) hi lo
extract_collapsing (ZeroExtend a w) hi lo = Extract (ZeroExtend a w) hi lo
extract_collapsing (SignExtend a w) hi lo = Extract (SignExtend a w) hi lo

-- every cut joins
abbrev pub joining : Cutter
joining = record { lane = extract_collapsing; bits = extract_collapsing }

-- ---- lanes

-- `extract_lane`: lane j, of n bits
unfoldable pub extract_lane : Cutter → Expr → ℕ → ℕ → Expr
extract_lane cut v n j = cut.lane v (n * j + n - 1) (n * j)

-- `concat_lanes`: the lanes 0 to last, the first lowest
unfoldable pub concat_lanes : ℕ → (ℕ → Expr) → Expr
concat_lanes zero f = f zero
concat_lanes (suc last) f = Concat (f (suc last)) (concat_lanes last f)
