-- A lane of a sum of mixed sign, from what its calls build. Assumes nothing.
use Prim.Native.Nat.{ℕ, ◌+◌, ◌*◌, ◌≤◌, ◌<◌}
use mathlib.Core.Path.{◌≡◌, refl}
use mathlib.Core.Bool.{Bool, not, cond}
use mathlib.Core.List.{List, [], ◌∷◌}
use native.Mathlib.Omega.{arith}
use Rattle.terms.specs.declared.BinOp.TheVariants.{Add}
use Rattle.pool.specs.declared.Node.{Node}
use Rattle.pool.specs.declared.Built.{Built}
use Rattle.pool.proofs.Steps.{start, step, finish, spare}
use Rattle.trees.specs.declared.SaturateTo.{SaturateTo}
use Rattle.trees.specs.declared.SaturateTo.TheVariants.{Signed, SignedToUnsigned}
use Rattle.trees.specs.Arith.{joined}
use Rattle.trees.specs.Trees.{clamp, mixed_at}
use Rattle.trees.specs.Arith as Arith
use Rattle.lower_simd.specs.Cut.{MadeLane}
use Rattle.lower.specs.Builds.{Builds1, Builds2, Lowers, read, unread}
use Rattle.lower.proofs.Lanes.{lane-fits}

pub mixed-lane : {w0 w1 w2 w3 w4 : List ℕ} {k : ℕ} {r1 r2 r3 r4 : Built} {first d : Node} {to : SaturateTo} {n lanes j : ℕ} (signed : Bool)
    → 1 ≤ n
    → j < lanes
    → n * lanes ≤ 128
    → to ≡ cond signed Signed SignedToUnsigned
    → MadeLane w0 k w1 r1 d n j
    → MadeLane w1 r1.count w2 r2 first n j
    → Builds2 w2 r2.count w3 r3 3 r1.node n r2.node n (n + 2) (λ d a. joined Add d signed a (not signed) (n + 2)) (r1.node.0 ∷ r2.node.0 ∷ [])
    → Builds1 w3 r3.count w4 r4 7 r3.node (n + 2) n (λ v. clamp v (n + 2) n to) (r3.node.0 ∷ [])
    → Lowers w0 k w4 r4 12 n (read d (n * lanes)) (read first (n * lanes)) unread (λ d a b. mixed_at signed n d a j) []
unfolding Arith.mixed_sign_add_lane
mixed-lane {first = first} {d = d} {n = n} {lanes = lanes} {j = j} signed l h b f e1 e2 e3 e4 =
    let fits : n * j + n ≤ n * lanes = lane-fits n j lanes h (omega arith) in
    rw (← f)
    (record {
      sized = omega (arith, e1.sized, e2.sized, e3.sized, e4.sized);
      made = λ {td} {ta} {tb} v x y z.
          let s0 = start v (spare first.0 (n * lanes) ta ∷ spare d.0 (n * lanes) td ∷ []) ((y refl), ((x refl), tt)) in
          let s1 = step s0 [] (e1.made s0.valid fits s0.env.1.0) in
          let s2 = step s1 [] (e2.made s1.valid fits s1.env.1.0) in
          let s3 = step s2 (1 ∷ 0 ∷ []) (e3.made s2.valid s2.env.1.0 s2.env.0) in
          finish (step s3 (0 ∷ []) (e4.made s3.valid s3.env.0)) tt;
    })
