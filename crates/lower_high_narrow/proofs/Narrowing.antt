-- High halves of sums and differences, from what their calls build. Assumes nothing.
use Prim.Native.Nat.{ℕ, ◌+◌, ◌-◌, ◌*◌, ◌^◌, ◌≤◌, ◌<◌}
use mathlib.Core.Path.{◌≡◌, refl}
use mathlib.Core.Bool.{Bool, true, false, cond}
use mathlib.Core.List.{List, [], ◌∷◌}
use native.Mathlib.Omega.{arith}
use Rattle.terms.specs.declared.BinOp.{BinOp}
use Rattle.terms.specs.Expr.{Expr, Const, Bv, Extract}
use Rattle.pool.specs.declared.Node.{Node}
use Rattle.pool.specs.declared.Built.{Built}
use Rattle.pool_nodes.specs.Builders.{MadeBv, MadeExtract}
use Rattle.pool.proofs.Steps.{start, step, finish, given, spare}
use Rattle.trees.specs.Simd.{extract_collapsing}
use Rattle.trees.specs.Arith.{plus_if}
use Rattle.trees.specs.Trees.{high_at, high_narrow_lane}
use Rattle.trees.specs.Width as Width
use Rattle.lower_simd.specs.Cut.{MadeLane}
use Rattle.lower.specs.Builds.{Builds1, Builds2, Lowers, read, unread}
use Rattle.lower.proofs.Lanes.{lane-fits}
use Rattle.terms.specs.declared.BinOp.TheVariants.{Add, Sub}

-- a sum is no Extract
sum-plain : (rounding : Bool) (op : BinOp) (a b c : Expr) (hi lo : ℕ) → extract_collapsing (plus_if rounding (Bv op a b) c) hi lo ≡ Extract (plus_if rounding (Bv op a b) c) hi lo
sum-plain true op a b c hi lo = refl
sum-plain false op a b c hi lo = refl

-- half of the place above the dropped bits fits the source's lane
pub high_lane : {w0 w1 w2 w3 : List ℕ} {k : ℕ} {r1 r2 r3 : Built} {a b : Node} {op : BinOp} {p n : ℕ} (subtract rounding : Bool)
    → 1 ≤ n
    → n ≤ 64
    → op ≡ cond subtract Sub Add
    → p ≡ 2 ^ (n - 1)
    → MadeBv w0 k w1 r1 op a b
    → Builds1 w1 r1.count w2 r2 2 r1.node (n * 2) (n * 2) (λ v. plus_if rounding v (Const p (n * 2))) (r1.node.0 ∷ [])
    → MadeExtract w2 r2.count w3 r3 r2.node (n * 2 - 1) n
    → Builds2 w0 k w3 r3 4 a (n * 2) b (n * 2) n (λ a b. high_narrow_lane subtract rounding a b n) (a.0 ∷ b.0 ∷ [])
unfolding Width.high_narrow_lane
high_lane {a = a} {b = b} {op = op} {p = p} {n = n} subtract rounding l m f g e1 e2 e3 =
    rw (← f, ← g)
    (record {
      sized = omega (arith, e1.sized, e2.sized, e3.sized);
      made = λ {ta} {tb} v x y.
          let s0 = start v (given a.0 (n * 2) ta ∷ given b.0 (n * 2) tb ∷ []) (x, (y, tt)) in
          let s1 = step s0 (0 ∷ 1 ∷ []) (e1.made s0.valid (omega arith) (omega arith) s0.env.0 s0.env.1.0) in
          let s2 = step s1 (0 ∷ []) (e2.made s1.valid s1.env.0) in
          rw (sum-plain rounding op ta tb (Const p (n * 2)) (n * 2 - 1) n) (finish (step s2 (0 ∷ []) (e3.made {u = n} s2.valid (omega arith) (omega arith) s2.env.0)) tt);
    })

pub high-at : {w0 w1 w2 w3 : List ℕ} {k : ℕ} {r1 r2 r3 : Built} {first second : Node} {n lanes j : ℕ} (subtract rounding : Bool)
    → j < lanes
    → MadeLane w0 k w1 r1 first (n * 2) j
    → MadeLane w1 r1.count w2 r2 second (n * 2) j
    → Builds2 w2 r2.count w3 r3 4 r1.node (n * 2) r2.node (n * 2) n (λ a b. high_narrow_lane subtract rounding a b n) (r1.node.0 ∷ r2.node.0 ∷ [])
    → Lowers w0 k w3 r3 6 n unread (read first (n * 2 * lanes)) (read second (n * 2 * lanes)) (λ d a b. high_at subtract rounding n a b j) []
high-at {first = first} {second = second} {n = n} {lanes = lanes} {j = j} subtract rounding h e1 e2 e3 =
    let fits : n * 2 * j + n * 2 ≤ n * 2 * lanes = lane-fits (n * 2) j lanes h (omega arith) in
    record {
      sized = omega (arith, e1.sized, e2.sized, e3.sized);
      made = λ {td} {ta} {tb} v x y z.
          let s0 = start v (spare first.0 (n * 2 * lanes) ta ∷ spare second.0 (n * 2 * lanes) tb ∷ []) ((y refl), ((z refl), tt)) in
          let s1 = step s0 [] (e1.made s0.valid fits s0.env.0) in
          let s2 = step s1 [] (e2.made s1.valid fits s1.env.1.1.0) in
          finish (step s2 (1 ∷ 0 ∷ []) (e3.made s2.valid s2.env.1.0 s2.env.0)) tt;
    }
