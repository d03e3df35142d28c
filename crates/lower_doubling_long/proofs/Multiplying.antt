-- The doubling long multiplications, from what their calls build. Assumes nothing.
use Prim.Native.Nat.{ℕ, ◌+◌, ◌-◌, ◌*◌, ◌/◌, ◌≤◌, ◌<◌}
use mathlib.Core.Path.{◌≡◌, refl}
use mathlib.Core.Bool.{Bool, true, false, false≢true}
use mathlib.Core.List.{List, [], ◌∷◌}
use native.Mathlib.Omega.{arith}
use native.Mathlib.Nat.{mul-le-mul_left}
use Rattle.terms.specs.declared.BinOp.{BinOp}
use Rattle.pool.specs.declared.Node.{Node}
use Rattle.pool.specs.declared.Built.{Built}
use Rattle.pool.proofs.Steps.{start, step, finish, stay, given, spare}
use Rattle.trees.specs.declared.SaturateTo.TheVariants.{Signed}
use Rattle.std.specs.declared.option.Option.{Option}
use Rattle.std.specs.declared.option.Option.TheVariants.{None, Some}
use Rattle.trees.specs.Simd.{concat_lanes}
use Rattle.trees.specs.Arith.{joined, twice, source_lane}
use Rattle.trees.specs.Trees.{clamp, doubling_product, doubling_long_lanes}
use Rattle.trees.specs.Arith as Arith
use Rattle.lower_simd.specs.Cut.{MadeLane}
use Rattle.lower.specs.Builds.{Builds1, Builds2, Lowers, read, read_if, unread}
use Rattle.lower.proofs.Lanes.{lane-fits, source-kept}
use Rattle.lower_exact.proofs.Exactly.{then2}
use Rattle.lower_doubling_long.specs.declared.Element.{Element}
use Rattle.lower_doubling_long.specs.declared.Element.TheVariants.{One, PerLane}
use Rattle.lower_doubling_long.specs.Elements.{accumulates, element_source, element_nodes, factor_bits, second_factor_bits, MadeElement}
use Rattle.lower_doubling_long.specs.Lanes.{combined_at, doubled_at}

pub product-made : {w0 w1 w2 : List ℕ} {k : ℕ} {r1 r2 : Built} {a b : Node} (n : ℕ)
    → Builds2 w0 k w1 r1 5 a (n / 2) b (n / 2) (n + 1) (λ a b. twice a b (n + 1)) (a.0 ∷ b.0 ∷ [])
    → Builds1 w1 r1.count w2 r2 7 r1.node (n + 1) n (λ v. clamp v (n + 1) n Signed) (r1.node.0 ∷ [])
    → Builds2 w0 k w2 r2 12 a (n / 2) b (n / 2) n (λ a b. doubling_product a b n) (a.0 ∷ b.0 ∷ [])
unfolding Arith.doubling_product
product-made n e1 e2 = then2 e1 e2

pub combined-with : {w0 w1 w2 w3 : List ℕ} {k : ℕ} {r1 r2 r3 : Built} {product d : Node} {op : BinOp} {combine : Option BinOp} {n lanes j : ℕ}
    → 2 ≤ n
    → j < lanes
    → combine ≡ Some op
    → MadeLane w0 k w1 r1 d n j
    → Builds2 w1 r1.count w2 r2 3 r1.node n product n (n + 1) (λ d p. joined op d true p true (n + 1)) (r1.node.0 ∷ product.0 ∷ [])
    → Builds1 w2 r2.count w3 r3 7 r2.node (n + 1) n (λ v. clamp v (n + 1) n Signed) (r2.node.0 ∷ [])
    → Lowers w0 k w3 r3 11 n (read_if (accumulates combine) d (n * lanes)) (read product n) unread (λ d p b. combined_at combine n d p j) (product.0 ∷ [])
combined-with {product = product} {d = d} {n = n} {lanes = lanes} {j = j} l h q e1 e2 e3 =
    let fits : n * j + n ≤ n * lanes = lane-fits n j lanes h (omega arith) in
    rw q
    (record {
      sized = omega (arith, e1.sized, e2.sized, e3.sized);
      made = λ {td} {ta} {tb} v x y z.
          let s0 = start v (given product.0 n ta ∷ spare d.0 (n * lanes) td ∷ []) ((y refl), ((x refl), tt)) in
          let s1 = step s0 [] (e1.made s0.valid fits s0.env.1.0) in
          let s2 = step s1 (0 ∷ 1 ∷ []) (e2.made s1.valid s1.env.0 s1.env.1.0) in
          finish (step s2 (0 ∷ []) (e3.made s2.valid s2.env.0)) tt;
    })

pub combined-nothing : {ws : List ℕ} {k : ℕ} {r : Built} {product d : Node} {combine : Option BinOp} (n lanes j : ℕ) → combine ≡ None → product.0 < k → r.node.0 ≡ product.0 → r.count ≡ k
    → Lowers ws k ws r 11 n (read_if (accumulates combine) d (n * lanes)) (read product n) unread (λ d p b. combined_at combine n d p j) (product.0 ∷ [])
combined-nothing n lanes j q b e f = rw q (record { sized = omega (arith, b, e, f); made = λ v x y z. rw (e, f) (stay v (y refl)) })

pub element-one : {ws : List ℕ} {k : ℕ} {r : Built} {second : Element} {value : Node} (bits lane : ℕ) → second ≡ One value → value.0 < k → r.node.0 ≡ value.0 → r.count ≡ k
    → MadeElement ws k ws r second bits lane
element-one bits lane q b e f = rw q (record { sized = omega (arith, b, e, f); made = λ v h x. rw (e, f) (stay v x) })

pub element-lane : {w0 w1 : List ℕ} {k : ℕ} {r : Built} {second : Element} {vector : Node} {bits lane : ℕ} → second ≡ PerLane vector
    → MadeLane w0 k w1 r vector bits lane
    → MadeElement w0 k w1 r second bits lane
element-lane q d = rw q (record { sized = d.sized; made = λ v h x. d.made v h x })

half_le : (n : ℕ) → n / 2 * 2 ≤ n
half_le n = omega arith

halved : (n lanes : ℕ) → n / 2 * lanes * 2 ≤ n * lanes
halved n lanes = omega (arith, mul-le-mul_left lanes (half_le n))

-- the sources' lane lies within them
pub factor-fits : (upper : Bool) (n lanes : ℕ) {j lane : ℕ} → j < lanes → lane ≡ source_lane upper lanes j → n / 2 * lane + n / 2 ≤ factor_bits upper n lanes
factor-fits true n lanes h e = rw e (omega (arith, mul-le-mul_left (n / 2) h))
factor-fits false n lanes h e = rw e (omega (arith, mul-le-mul_left (n / 2) h))

pub factor-most : (upper : Bool) (n lanes : ℕ) → n * lanes ≤ 128 → factor_bits upper n lanes ≤ 128
factor-most true n lanes h = omega (arith, halved n lanes)
factor-most false n lanes h = omega (arith, halved n lanes)

-- lanes of two bits or more are fewer than their bits
pub lanes-most : (n lanes : ℕ) → 2 ≤ n → n * lanes ≤ 128 → lanes ≤ 128
lanes-most n lanes l h = omega (arith, mul-le-mul_left lanes l)

-- the lane that is multiplied ends within the register
pub factor-in : (upper : Bool) (n lanes : ℕ) {j lane : ℕ} → j < lanes → lane ≡ source_lane upper lanes j → n * lanes ≤ 128 → n / 2 * lane + n / 2 ≤ 128
factor-in upper n lanes h e l = omega (arith, factor-fits upper n lanes h e, factor-most upper n lanes l)

doubled-one : {w0 w1 w2 w3 w4 : List ℕ} {k : ℕ} {r1 r2 r3 r4 : Built} {first value d : Node} {n lanes j lane : ℕ} (combine : Option BinOp) (upper : Bool)
    → j < lanes
    → lane ≡ source_lane upper lanes j
    → MadeLane w0 k w1 r1 first (n / 2) lane
    → MadeElement w1 r1.count w2 r2 (One value) (n / 2) lane
    → Builds2 w2 r2.count w3 r3 12 r1.node (n / 2) r2.node (n / 2) n (λ a b. doubling_product a b n) (r1.node.0 ∷ r2.node.0 ∷ [])
    → Lowers w3 r3.count w4 r4 11 n (read_if (accumulates combine) d (n * lanes)) (read r3.node n) unread (λ d p b. combined_at combine n d p j) (r3.node.0 ∷ [])
    → Lowers w0 k w4 r4 25 n (read_if (accumulates combine) d (n * lanes)) (read first (factor_bits upper n lanes)) (element_source (One value) (n / 2) (factor_bits upper n lanes))
    (λ d a b. doubled_at combine (One value) upper n lanes d a b j) (element_nodes (One value))
unfolding Arith.doubling_long_lane
doubled-one {first = first} {value = value} {n = n} {lanes = lanes} {j = j} {lane = lane} combine upper h e e1 e2 e3 e4 =
    let fits : n / 2 * lane + n / 2 ≤ factor_bits upper n lanes = factor-fits upper n lanes h e in
    rw (← e)
    (record {
      sized = omega (arith, e1.sized, e2.sized, e3.sized, e4.sized);
      made = λ {td} {ta} {tb} v x y z.
          let s0 = start v (spare first.0 (factor_bits upper n lanes) ta ∷ given value.0 (n / 2) tb ∷ []) ((y refl), ((z refl), tt)) in
          let s1 = step s0 [] (e1.made s0.valid fits s0.env.0) in
          let s2 = step s1 (2 ∷ []) (e2.made s1.valid fits s1.env.1.1.0) in
          let s3 = step s2 (1 ∷ 0 ∷ []) (e3.made s2.valid s2.env.1.0 s2.env.0) in
          finish (step s3 (0 ∷ []) (e4.made {tb = tb} s3.valid (source-kept s3.grown x) (λ u. s3.env.0) (λ u. absurd (false≢true u)))) tt;
    })

doubled-per-lane : {w0 w1 w2 w3 w4 : List ℕ} {k : ℕ} {r1 r2 r3 r4 : Built} {first vector d : Node} {n lanes j lane : ℕ} (combine : Option BinOp) (upper : Bool)
    → j < lanes
    → lane ≡ source_lane upper lanes j
    → MadeLane w0 k w1 r1 first (n / 2) lane
    → MadeElement w1 r1.count w2 r2 (PerLane vector) (n / 2) lane
    → Builds2 w2 r2.count w3 r3 12 r1.node (n / 2) r2.node (n / 2) n (λ a b. doubling_product a b n) (r1.node.0 ∷ r2.node.0 ∷ [])
    → Lowers w3 r3.count w4 r4 11 n (read_if (accumulates combine) d (n * lanes)) (read r3.node n) unread (λ d p b. combined_at combine n d p j) (r3.node.0 ∷ [])
    → Lowers w0 k w4 r4 25 n (read_if (accumulates combine) d (n * lanes)) (read first (factor_bits upper n lanes)) (element_source (PerLane vector) (n / 2) (factor_bits upper n lanes))
    (λ d a b. doubled_at combine (PerLane vector) upper n lanes d a b j) (element_nodes (PerLane vector))
unfolding Arith.doubling_long_lane
doubled-per-lane {first = first} {vector = vector} {n = n} {lanes = lanes} {j = j} {lane = lane} combine upper h e e1 e2 e3 e4 =
    let fits : n / 2 * lane + n / 2 ≤ factor_bits upper n lanes = factor-fits upper n lanes h e in
    rw (← e)
    (record {
      sized = omega (arith, e1.sized, e2.sized, e3.sized, e4.sized);
      made = λ {td} {ta} {tb} v x y z.
          let s0 = start v (spare first.0 (factor_bits upper n lanes) ta ∷ spare vector.0 (factor_bits upper n lanes) tb ∷ []) ((y refl), ((z refl), tt)) in
          let s1 = step s0 [] (e1.made s0.valid fits s0.env.0) in
          let s2 = step s1 [] (e2.made s1.valid fits s1.env.1.1.0) in
          let s3 = step s2 (1 ∷ 0 ∷ []) (e3.made s2.valid s2.env.1.0 s2.env.0) in
          finish (step s3 (0 ∷ []) (e4.made {tb = tb} s3.valid (source-kept s3.grown x) (λ u. s3.env.0) (λ u. absurd (false≢true u)))) tt;
    })

pub doubled-lane : {w0 w1 w2 w3 w4 : List ℕ} {k : ℕ} {r1 r2 r3 r4 : Built} {first d : Node} {n lanes j lane : ℕ} (combine : Option BinOp) (upper : Bool) (second : Element)
    → j < lanes
    → lane ≡ source_lane upper lanes j
    → MadeLane w0 k w1 r1 first (n / 2) lane
    → MadeElement w1 r1.count w2 r2 second (n / 2) lane
    → Builds2 w2 r2.count w3 r3 12 r1.node (n / 2) r2.node (n / 2) n (λ a b. doubling_product a b n) (r1.node.0 ∷ r2.node.0 ∷ [])
    → Lowers w3 r3.count w4 r4 11 n (read_if (accumulates combine) d (n * lanes)) (read r3.node n) unread (λ d p b. combined_at combine n d p j) (r3.node.0 ∷ [])
    → Lowers w0 k w4 r4 25 n (read_if (accumulates combine) d (n * lanes)) (read first (factor_bits upper n lanes)) (element_source second (n / 2) (factor_bits upper n lanes))
    (λ d a b. doubled_at combine second upper n lanes d a b j) (element_nodes second)
doubled-lane combine upper (One value) h e e1 e2 e3 e4 = doubled-one combine upper h e e1 e2 e3 e4
doubled-lane combine upper (PerLane vector) h e e1 e2 e3 e4 = doubled-per-lane combine upper h e e1 e2 e3 e4

pub by-element : {w0 w1 w2 : List ℕ} {k : ℕ} {r1 r2 : Built} {first second d : Node} (n lanes i : ℕ) (combine : Option BinOp) (upper by_element : Bool)
    → n / 2 * i + n / 2 ≤ 128
    → by_element ≡ true
    → MadeLane w0 k w1 r1 second (n / 2) i
    → Lowers w1 r1.count w2 r2 (26 * lanes) (n * lanes) (read_if (accumulates combine) d (n * lanes)) (read first (factor_bits upper n lanes))
    (element_source (One r1.node) (n / 2) (factor_bits upper n lanes)) (λ d a b. concat_lanes (lanes - 1) (doubled_at combine (One r1.node) upper n lanes d a b)) (element_nodes (One r1.node))
    → Lowers w0 k w2 r2 (26 * lanes + 1) (n * lanes) (read_if (accumulates combine) d (n * lanes)) (read first (factor_bits upper n lanes))
    (read second (second_factor_bits by_element upper n lanes)) (λ d a b. doubling_long_lanes combine upper by_element i a b d n lanes) []
unfolding Arith.doubling_long_lane Arith.doubling_long_lanes
by-element {second = second} n lanes i combine upper by_element h q e1 e2 =
    rw q
    (record {
      sized = omega (arith, e1.sized, e2.sized);
      made = λ {td} {ta} {tb} v x y z.
          let s0 = start v (spare second.0 128 tb ∷ []) ((z refl), tt) in
          let s1 = step s0 [] (e1.made s0.valid h s0.env.0) in
          finish (step s1 (0 ∷ []) (e2.made s1.valid (source-kept s1.grown x) (source-kept s1.grown y) (λ u. s1.env.0))) tt;
    })

pub by-lane : {w0 w1 : List ℕ} {k : ℕ} {r : Built} {first second d : Node} (n lanes i : ℕ) (combine : Option BinOp) (upper by_element : Bool) → by_element ≡ false
    → Lowers w0 k w1 r (26 * lanes) (n * lanes) (read_if (accumulates combine) d (n * lanes)) (read first (factor_bits upper n lanes))
    (element_source (PerLane second) (n / 2) (factor_bits upper n lanes)) (λ d a b. concat_lanes (lanes - 1) (doubled_at combine (PerLane second) upper n lanes d a b)) (element_nodes (PerLane second))
    → Lowers w0 k w1 r (26 * lanes + 1) (n * lanes) (read_if (accumulates combine) d (n * lanes)) (read first (factor_bits upper n lanes))
    (read second (second_factor_bits by_element upper n lanes)) (λ d a b. doubling_long_lanes combine upper by_element i a b d n lanes) []
unfolding Arith.doubling_long_lane Arith.doubling_long_lanes
by-lane n lanes i combine upper by_element q e = rw q (record { sized = omega (arith, e.sized); made = λ v x y z. e.made v x y z })
