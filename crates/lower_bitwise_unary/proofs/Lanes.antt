-- A lane of the answer, from what its calls build, and how many nodes the lanes take. Assumes nothing.
use Prim.Native.Nat.{ℕ, ◌+◌, ◌-◌, ◌*◌, ◌≤◌, ◌<◌}
use mathlib.Core.Path.{◌≡◌, refl, ap, ◌∙◌}
use mathlib.Core.List.{List, [], ◌∷◌}
use native.Mathlib.Omega.{arith}
use native.Mathlib.Nat.{mul-le-mul_right}
use Rattle.pool.specs.declared.Node.{Node}
use Rattle.pool.specs.declared.Built.{Built}
use Rattle.terms.specs.Expr.{Extract}
use Rattle.pool.proofs.Steps.{forget}
use Rattle.trees.specs.declared.BitwiseUnary.{BitwiseUnary}
use Rattle.trees.specs.Simd.{extract_collapsing}
use Rattle.trees.specs.Trees.{bitwise_at, bitwise_unary_lane}
use Rattle.trees.specs.Simd as Simd
use Rattle.lower_simd.specs.Cut.{CutFrom}
use Rattle.lower_bitwise_unary_lane.specs.Layers.{lane_from, BuildsLane}
use Rattle.lower.specs.Builds.{Lowers, read, unread}
use Rattle.lower.proofs.Lanes.{lane-fits}

pub bitwise-at : {w0 w1 : List ℕ} {k : ℕ} {r : Built} {first from : Node} {n lanes j by : ℕ} (op : BitwiseUnary) → 2 ≤ n → j < lanes
    → CutFrom w0 first.0 (n * j + n - 1) from.0 by
    → BuildsLane w0 k w1 r (5 * n + 1) from (n * j + by) n n (λ v. bitwise_unary_lane op v n) (from.0 ∷ [])
    → Lowers w0 k w1 r (5 * n + 1) n unread (read first (n * lanes)) unread (λ d a b. bitwise_at op n a j) []
unfolding Simd.extract_lane
bitwise-at {first = first} {n = n} {lanes = lanes} {j = j} {by = by} op some h c e =
    let fits : n * j + n ≤ n * lanes = lane-fits n j lanes h (omega arith) in
    record {
      sized = e.sized;
      made = λ {td} {ta} {tb} v x y z.
          let s = c.from v (omega arith) (y refl) in
          let lane : extract_collapsing ta (n * j + n - 1) (n * j) ≡ lane_from s.term (n * j + by) n =
          s.same (n * j + n - 1) (n * j) (omega arith) ∙ s.plain (n * j + n - 1 + by) (n * j + by) ∙ ap (λ (hi : ℕ). Extract s.term hi (n * j + by)) (omega arith) in
          rw lane (forget (e.made v s.plain (omega (arith, s.inside)) s.is));
    }

-- ---- how many nodes

-- of lanes of 8 bits or more, in a register
pub nodes-most : (n lanes : ℕ) → 8 ≤ n → n * lanes ≤ 128 → (5 * n + 2) * lanes ≤ 672
nodes-most n lanes l h = omega (arith, mul-le-mul_right lanes l)
