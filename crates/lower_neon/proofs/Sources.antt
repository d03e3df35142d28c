-- Lowerings of fewer nodes, and sources that are not read or whose width is known by another name. Assumes nothing.
use Prim.Native.Nat.{ℕ, ◌*◌, ◌≤◌, ◌<◌}
use mathlib.Core.Path.{◌≡◌, sym, subst, ◌∙◌}
use mathlib.Core.Bool.{Bool, true, false, false≢true}
use mathlib.Core.List.{List, []}
use native.Mathlib.Omega.{arith}
use native.Mathlib.Nat.{mul-le-mul_right}
use Rattle.terms.specs.Expr.{Expr}
use Rattle.neon.specs.Op.{Op, Arrangement, full, view}
use Rattle.neon.specs.Form.{form, has_second, reads_d, first_bits, second_bits}
use Rattle.neon.proofs.Geometry.{sized, filled, made-max}
use Rattle.trees.specs.declared.NeonOp.{NeonOp}
use Rattle.trees.specs.declared.NeonShape.{NeonShape}
use Rattle.trees.specs.Neon.{shape_of}
use Rattle.trees.specs.Trees.{neon_value, result_tree}
use Rattle.trees.specs.Neon as Neon
use Rattle.pool.specs.declared.Node.{Node}
use Rattle.pool.specs.declared.Built.{Built}
use Rattle.pool.specs.Growth.{NodeIs}
use Rattle.lower.specs.Builds.{Source, SourceIs, Below, Lowers, read, read_if, unread, with_lower}
use Rattle.lower_neon.specs.Family.{reads_second, reads_old, keeps_lower, old_width, first_width, second_width, FamilyIn}
use Rattle.neon.specs.Refusal.{most_nodes}
use Rattle.lower_neon.proofs.Rows.{Row}

-- at most 16 lanes
pub lanes-le : (n k : ℕ) → 8 ≤ n → n * k ≤ 128 → k ≤ 16
lanes-le n k h l = omega (arith, mul-le-mul_right k h)

-- what a family asks of its sources and lanes
abbrev pub Ready : (c : ℕ) (second d : Node) (n k i : ℕ) → NeonOp → Type 0
Ready c second d n k i op = Below (read_if (reads_second op) second 0) c × Below (read_if (reads_old op) d 0) c × FamilyIn op n k i

pub ready : (c : ℕ) (second d : Node) (n k i : ℕ) {op op' : NeonOp} → op ≡ op' → Ready c second d n k i op → Ready c second d n k i op'
ready c second d n k i e h = subst (λ (x : NeonOp). Ready c second d n k i x) e h

abbrev pub ShapeReady : (c : ℕ) (first second d : Node) → NeonShape → Type 0
ShapeReady c first second d s =
    ((first.0 < c) × Below (read_if (reads_second s.op) second 0) c × Below (read_if (reads_old s.op) d 0) c)
    × ((8 ≤ s.lane_bits) × (s.lane_bits ≤ 64) × (1 ≤ s.lanes) × (s.lane_bits * s.lanes ≤ 128)
    × FamilyIn s.op s.lane_bits s.lanes s.source_index.0)

pub form-ready : (c : ℕ) (first second d : Node) {s : NeonShape} (o : Op) (v : Arrangement) (i : ℕ)
    → s ≡ shape_of o v i
    → Row o v i
    → first.0 < c
    → Below (read_if (has_second o) second 0) c
    → Below (read_if (reads_d o v) d 0) c
    → ShapeReady c first second d s
form-ready c first second d o v i e f h p q =
    let g = filled (form o).lanes v in
    subst (λ (s : NeonShape). ShapeReady c first second d s) (sym e) (
      (h, λ u. p (sym f.second ∙ u), λ u. q (sym f.old ∙ u)),
      ((sized v).eight, (sized v).most, omega (arith, g.some), omega (arith, g.fill, made-max (form o).lanes (full v)), f.in_row),
    )

-- what s' is known to be, s is
abbrev pub Weaker : Source → Source → Type 0
Weaker s s' = (ws : List ℕ) (c : ℕ) (t : Expr) → SourceIs ws c s' t → SourceIs ws c s t

pub as_is : (s : Source) → Weaker s s
as_is s ws c t x = x

pub not-read : (n : Node) (w : ℕ) → Weaker unread (read_if false n w)
not-read n w ws c t x e = absurd (false≢true e)

pub at_width : (b : Bool) (n : Node) {w w' : ℕ} → (b ≡ true → w ≡ w') → Weaker (read_if b n w) (read_if b n w')
at_width b n q ws c t x e = subst (λ (u : ℕ). NodeIs ws c n.0 u t) (sym (q e)) (x e)

module _ {old new : List ℕ} {c : ℕ} {r : Built} where
  pub within : {m m' w : ℕ} {d d' a a' b b' : Source} {t : Expr → Expr → Expr → Expr} {ins : List ℕ}
      → m ≤ m'
      → Weaker d d'
      → Weaker a a'
      → Weaker b b'
      → Lowers old c new r m w d a b t ins
      → Lowers old c new r m' w d' a' b' t ins
  within h p q s e =
      record {
        sized = omega (arith, e.sized, h);
        made = λ {td} {ta} {tb} v x y z. e.made v (p _ _ _ x) (q _ _ _ y) (s _ _ _ z);
      }

  renamed : {m w w' x x' f f' s s' : ℕ} {b b' e e' : Bool} {d first second : Node} {t : Expr → Expr → Expr → Expr}
      → w ≡ w'
      → b ≡ b'
      → (b ≡ true → x ≡ x')
      → f ≡ f'
      → e ≡ e'
      → (e ≡ true → s ≡ s')
      → Lowers old c new r m w (read_if b d x) (read first f) (read_if e second s) t []
      → Lowers old c new r m w' (read_if b' d x') (read first f') (read_if e' second s') t []
  renamed {m} {b = b} {e = e} {d = d} {first = first} {second = second} p1 p2 p3 p4 p5 p6 h =
      rw (← p1, ← p2, ← p4, ← p5)
      (within {m = m} (omega arith) (at_width b d p3) (as_is _) (at_width e second p6) h)

  -- a lowering of an operation's shape is one of its row
  pub form-lowers : {d first second : Node} {s : NeonShape} (o : Op) (v : Arrangement) (i : ℕ)
      → s ≡ shape_of o v i
      → Row o v i
      → Lowers old c new r most_nodes (with_lower (keeps_lower s.op) (s.lane_bits * s.lanes)) (read_if (reads_old s.op) d (old_width s.op s.lane_bits s.lanes))
      (read first (first_width s.op s.lane_bits s.lanes)) (read_if (reads_second s.op) second (second_width s.op s.lane_bits s.lanes))
      (λ d a b. neon_value s d a b) []
      → Lowers old c new r most_nodes (view v) (read_if (reads_d o v) d (view v)) (read first (first_bits o v)) (read_if (has_second o) second (second_bits o v))
      (result_tree o v i) []
  unfolding Neon.result_tree
  form-lowers {d} {first} {second} o v i e f h =
      renamed f.wide f.old f.old-wide f.first-wide f.second f.second-wide
      (subst (λ (s : NeonShape).
      Lowers old c new r most_nodes (with_lower (keeps_lower s.op) (s.lane_bits * s.lanes)) (read_if (reads_old s.op) d (old_width s.op s.lane_bits s.lanes))
      (read first (first_width s.op s.lane_bits s.lanes)) (read_if (reads_second s.op) second (second_width s.op s.lane_bits s.lanes))
      (λ d a b. neon_value s d a b) [])
      e h)
