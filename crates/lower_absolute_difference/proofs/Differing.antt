-- A lane of an absolute difference, alone or added to the old destination's, from what its calls build. Assumes nothing.
use Prim.Native.Nat.{ℕ, ◌+◌, ◌*◌, ◌≤◌, ◌<◌}
use mathlib.Core.Path.{◌≡◌, refl}
use mathlib.Core.Bool.{Bool, true, false, cond}
use mathlib.Core.List.{List, [], ◌∷◌}
use native.Mathlib.Omega.{arith}
use Rattle.terms.specs.declared.BinOp.TheVariants.{Add, Sub}
use Rattle.terms.specs.declared.CmpOp.{CmpOp}
use Rattle.terms.specs.declared.CmpOp.TheVariants.{Slt, Ult}
use Rattle.pool.specs.declared.Node.{Node}
use Rattle.pool.specs.declared.Built.{Built}
use Rattle.pool_nodes.specs.Builders.{MadeBv, MadeCompare, MadeIte}
use Rattle.pool.proofs.Steps.{start, step, finish, given, spare}
use Rattle.trees.specs.Arith.{absolute_difference_lane}
use Rattle.trees.specs.Trees.{difference_at}
use Rattle.lower_simd.specs.Cut.{MadeLane}
use Rattle.lower.specs.Builds.{Builds2, Lowers, read, read_if}
use Rattle.lower.proofs.Lanes.{lane-fits}

pub difference-lane : {w0 w1 w2 w3 w4 : List ℕ} {k : ℕ} {r1 r2 r3 r4 : Built} {a b : Node} {op : CmpOp} {n : ℕ} (signed : Bool)
    → 1 ≤ n
    → n ≤ 64
    → op ≡ cond signed Slt Ult
    → MadeCompare w0 k w1 r1 op a b
    → MadeBv w1 r1.count w2 r2 Sub b a
    → MadeBv w2 r2.count w3 r3 Sub a b
    → MadeIte w3 r3.count w4 r4 r1.node r2.node r3.node
    → Builds2 w0 k w4 r4 4 a n b n n (λ a b. absolute_difference_lane signed a b) (a.0 ∷ b.0 ∷ [])
unfolding absolute_difference_lane
difference-lane {a = a} {b = b} {n = n} signed l m f e1 e2 e3 e4 =
    rw (← f)
    (record {
      sized = omega (arith, e1.sized, e2.sized, e3.sized, e4.sized);
      made = λ {ta} {tb} v x y.
          let s0 = start v (given a.0 n ta ∷ given b.0 n tb ∷ []) (x, (y, tt)) in
          let s1 = step s0 (0 ∷ 1 ∷ []) (e1.made s0.valid l s0.env.0 s0.env.1.0) in
          let s2 = step s1 (2 ∷ 1 ∷ []) (e2.made s1.valid l (omega arith) s1.env.1.1.0 s1.env.1.0) in
          let s3 = step s2 (2 ∷ 3 ∷ []) (e3.made s2.valid l (omega arith) s2.env.1.1.0 s2.env.1.1.1.0) in
          finish (step s3 (2 ∷ 1 ∷ 0 ∷ []) (e4.made s3.valid l (omega arith) s3.env.1.1.0 s3.env.1.0 s3.env.0)) tt;
    })

pub difference-added : {w0 w1 w2 w3 w4 w5 : List ℕ} {k : ℕ} {r1 r2 r3 r4 r5 : Built} {first second d : Node} {n lanes j : ℕ} (signed accumulate : Bool)
    → 1 ≤ n
    → n ≤ 64
    → j < lanes
    → n * lanes ≤ 128
    → accumulate ≡ true
    → MadeLane w0 k w1 r1 first n j
    → MadeLane w1 r1.count w2 r2 second n j
    → Builds2 w2 r2.count w3 r3 4 r1.node n r2.node n n (λ a b. absolute_difference_lane signed a b) (r1.node.0 ∷ r2.node.0 ∷ [])
    → MadeLane w3 r3.count w4 r4 d n j
    → MadeBv w4 r4.count w5 r5 Add r4.node r3.node
    → Lowers w0 k w5 r5 8 n (read_if accumulate d (n * lanes)) (read first (n * lanes)) (read second (n * lanes)) (λ d a b. difference_at signed accumulate n d a b j) []
difference-added {first = first} {second = second} {d = d} {n = n} {lanes = lanes} {j = j} signed accumulate l m h b q e1 e2 e3 e4 e5 =
    let fits : n * j + n ≤ n * lanes = lane-fits n j lanes h (omega arith) in
    rw q
    (record {
      sized = omega (arith, e1.sized, e2.sized, e3.sized, e4.sized, e5.sized);
      made = λ {td} {ta} {tb} v x y z.
          let s0 = start v (spare first.0 (n * lanes) ta ∷ spare second.0 (n * lanes) tb ∷ spare d.0 (n * lanes) td ∷ []) ((y refl), ((z refl), ((x refl), tt))) in
          let s1 = step s0 [] (e1.made s0.valid fits s0.env.0) in
          let s2 = step s1 [] (e2.made s1.valid fits s1.env.1.1.0) in
          let s3 = step s2 (1 ∷ 0 ∷ []) (e3.made s2.valid s2.env.1.0 s2.env.0) in
          let s4 = step s3 [] (e4.made s3.valid fits s3.env.1.1.1.1.1.0) in
          finish (step s4 (0 ∷ 1 ∷ []) (e5.made s4.valid l (omega arith) s4.env.0 s4.env.1.0)) tt;
    })

pub difference-alone : {w0 w1 w2 w3 : List ℕ} {k : ℕ} {r1 r2 r3 : Built} {first second d : Node} {n lanes j : ℕ} (signed accumulate : Bool)
    → 1 ≤ n
    → n ≤ 64
    → j < lanes
    → n * lanes ≤ 128
    → accumulate ≡ false
    → MadeLane w0 k w1 r1 first n j
    → MadeLane w1 r1.count w2 r2 second n j
    → Builds2 w2 r2.count w3 r3 4 r1.node n r2.node n n (λ a b. absolute_difference_lane signed a b) (r1.node.0 ∷ r2.node.0 ∷ [])
    → Lowers w0 k w3 r3 8 n (read_if accumulate d (n * lanes)) (read first (n * lanes)) (read second (n * lanes)) (λ d a b. difference_at signed accumulate n d a b j) []
difference-alone {first = first} {second = second} {n = n} {lanes = lanes} {j = j} signed accumulate l m h b q e1 e2 e3 =
    let fits : n * j + n ≤ n * lanes = lane-fits n j lanes h (omega arith) in
    rw q
    (record {
      sized = omega (arith, e1.sized, e2.sized, e3.sized);
      made = λ {td} {ta} {tb} v x y z.
          let s0 = start v (spare first.0 (n * lanes) ta ∷ spare second.0 (n * lanes) tb ∷ []) ((y refl), ((z refl), tt)) in
          let s1 = step s0 [] (e1.made s0.valid fits s0.env.0) in
          let s2 = step s1 [] (e2.made s1.valid fits s1.env.1.1.0) in
          finish (step s2 (1 ∷ 0 ∷ []) (e3.made s2.valid s2.env.1.0 s2.env.0)) tt;
    })
