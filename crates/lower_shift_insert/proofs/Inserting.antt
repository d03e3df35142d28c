-- SLI and SRI, from what their calls build. Assumes nothing.
use Prim.Native.Nat.{ℕ, ◌+◌, ◌-◌, ◌*◌, ◌^◌, ◌≤◌, ◌<◌}
use mathlib.Core.Path.{◌≡◌, refl}
use mathlib.Core.Bool.{Bool, true, false, cond}
use mathlib.Core.List.{List, [], ◌∷◌}
use native.Mathlib.Omega.{arith}
use lib.Pow.{pow_pos, pow_mono}
use Rattle.facts.proofs.Numbers.{small}
use Rattle.terms.specs.declared.BinOp.{BinOp}
use Rattle.terms.specs.declared.BinOp.TheVariants.{And, Or, LShr, Shl}
use Rattle.pool.specs.declared.Node.{Node}
use Rattle.pool.specs.declared.Built.{Built}
use Rattle.pool_nodes.specs.Builders.{MadeConst, MadeBv}
use Rattle.pool.proofs.Steps.{start, step, finish, given, spare}
use Rattle.trees.specs.Simd.{concat_lanes}
use Rattle.trees.specs.Arith.{kept_bits, shift_insert_lane}
use Rattle.trees.specs.Trees.{insert_at, shift_insert_lanes}
use Rattle.trees.specs.Arith as Arith
use Rattle.lower_simd.specs.Cut.{MadeLane}
use Rattle.lower.specs.Builds.{Lowers, read, unread}
use Rattle.lower.proofs.Lanes.{source-kept, lane-fits}

pub inserted : {w0 w1 w2 w3 w4 w5 w6 : List ℕ} {k : ℕ} {r1 r2 r3 r4 r5 r6 : Built} {amount first d : Node} {op : BinOp} {n lanes j kept : ℕ} (left : Bool)
    → 1 ≤ n
    → n ≤ 64
    → j < lanes
    → n * lanes ≤ 128
    → kept < 2 ^ n
    → op ≡ cond left Shl LShr
    → MadeLane w0 k w1 r1 first n j
    → MadeLane w1 r1.count w2 r2 d n j
    → MadeBv w2 r2.count w3 r3 op r1.node amount
    → MadeConst w3 r3.count w4 r4 kept 0 n
    → MadeBv w4 r4.count w5 r5 And r2.node r4.node
    → MadeBv w5 r5.count w6 r6 Or r3.node r5.node
    → Lowers w0 k w6 r6 6 n (read d (n * lanes)) (read first (n * lanes)) (read amount n) (λ d a s. insert_at left kept n d a s j) (amount.0 ∷ [])
inserted {amount = amount} {first = first} {d = d} {n = n} {lanes = lanes} {j = j} {kept = kept} left l m h b c f e1 e2 e3 e4 e5 e6 =
    let fits : n * j + n ≤ n * lanes = lane-fits n j lanes h (omega arith) in
    rw (← f)
    (record {
      sized = omega (arith, e1.sized, e2.sized, e3.sized, e4.sized, e5.sized, e6.sized);
      made = λ {td} {ta} {tb} v x y z.
          let s0 = start v (given amount.0 n tb ∷ spare first.0 (n * lanes) ta ∷ spare d.0 (n * lanes) td ∷ []) ((z refl), ((y refl), ((x refl), tt))) in
          let s1 = step s0 [] (e1.made s0.valid fits s0.env.1.0) in
          let s2 = step s1 [] (e2.made s1.valid fits s1.env.1.1.1.0) in
          let s3 = step s2 (1 ∷ 2 ∷ []) (e3.made s2.valid l (omega arith) s2.env.1.0 s2.env.1.1.0) in
          let s4 = step s3 [] (e4.made s3.valid l (omega arith) (omega arith) c) in
          let s5 = step s4 (2 ∷ 0 ∷ []) (e5.made s4.valid l (omega arith) s4.env.1.1.0 s4.env.0) in
          finish (step s5 (2 ∷ 0 ∷ []) (e6.made s5.valid l (omega arith) s5.env.1.1.0 s5.env.0)) tt;
    })

-- ---- the insert's amount and mask

pub kept-lt : (left : Bool) (n shift : ℕ) → shift ≤ n → kept_bits left n shift < 2 ^ n
kept-lt true n shift h = omega (arith, pow_mono h, pow_pos shift)
kept-lt false n shift h = omega (arith, pow_pos n, pow_pos (n - shift))

pub low-le : (n shift : ℕ) {whole low : ℕ} → whole ≡ 2 ^ n - 1 → low ≡ 2 ^ (n - shift) - 1 → low ≤ whole
low-le n shift e f = omega (arith, e, f, pow_mono {i = n - shift} {j = n} (omega arith))

pub inserted-all : {w0 w1 w2 : List ℕ} {k : ℕ} {r1 r2 : Built} {first d : Node} {n shift kept : ℕ} (left : Bool) (lanes : ℕ)
    → 1 ≤ n
    → n ≤ 64
    → shift ≤ n
    → kept ≡ kept_bits left n shift
    → MadeConst w0 k w1 r1 shift 0 n
    → Lowers w1 r1.count w2 r2 (7 * lanes) (n * lanes) (read d (n * lanes)) (read first (n * lanes)) (read r1.node n)
    (λ d a s. concat_lanes (lanes - 1) (insert_at left kept n d a s)) (r1.node.0 ∷ [])
    → Lowers w0 k w2 r2 (7 * lanes + 1) (n * lanes) (read d (n * lanes)) (read first (n * lanes)) unread (λ d a b. shift_insert_lanes left shift a d n lanes) []
unfolding shift_insert_lane Arith.shift_insert_lanes
inserted-all {n = n} {shift = shift} left lanes l m h e e1 e2 =
    rw (← e)
    (record {
      sized = omega (arith, e1.sized, e2.sized);
      made = λ {td} {ta} {tb} v x y z.
          let s0 = start v [] tt in
          let s1 = step s0 [] (e1.made s0.valid l (omega arith) (omega arith) (small n shift n h (omega arith))) in
          finish (step s1 (0 ∷ []) (e2.made s1.valid (source-kept s1.grown x) (source-kept s1.grown y) (λ u. s1.env.0))) tt;
    })
