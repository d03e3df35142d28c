-- Leading sign bits, the reversal, and the lane of each kind, from what their calls build. Assumes nothing.
use mathlib.Core.Bool.{false≢true}
use Prim.Native.Nat.{ℕ, zero, suc, ◌+◌, ◌-◌, ◌*◌, ◌≤◌, ◌<◌}
use mathlib.Core.Path.{◌≡◌, refl, sym, ap₂, subst, ◌∙◌}
use mathlib.Core.List.{List, [], ◌∷◌}
use native.Mathlib.Omega.{arith}
use native.Mathlib.Nat.{one-mul, zero-add}
use borrow.Author.Tests.{le-leb}
use Rattle.terms.specs.declared.BinOp.TheVariants.{Xor}
use Rattle.terms.specs.declared.CmpOp.TheVariants.{Eq}
use Rattle.terms.specs.Expr.{Expr, Const, Compare, Ite, Extract, Concat}
use Rattle.pool.specs.declared.Node.{Node}
use Rattle.pool.specs.declared.Built.{Built}
use Rattle.pool_nodes.specs.Builders.{Makes, MadeBv, MadeExtract, MadeZeroExtend}
use Rattle.pool.proofs.Steps.{start, step, finish, given}
use Rattle.trees.specs.declared.BitwiseUnary.{BitwiseUnary}
use Rattle.trees.specs.declared.BitwiseUnary.TheVariants.{PopulationCount, LeadingZeros, LeadingSignBits, ReverseBits}
use Rattle.trees.specs.Simd.{extract_collapsing, concat_lanes}
use Rattle.trees.specs.Trees.{leading_zeros, population_count, bitwise_unary_lane}
use Rattle.trees.specs.Arith as Arith
use Rattle.lower.specs.Builds.{Lowers, read, unread}
use Rattle.lower.proofs.Lanes.{LanesTo}
use Rattle.lower_bitwise_unary_lane.specs.Layers.{Plain, lane_from, reversed_from, BuildsLane}
use Rattle.lower_bitwise_unary_lane.proofs.Layering.{bit-of}

-- the zeros of a term are those of the lane that is all of it
zeros-whole : {v : Expr} → Plain v → (n k : ℕ) → k ≤ n → leading_zeros (lane_from v 0 n) n k ≡ leading_zeros v n k
unfolding Arith.leading_zeros
zeros-whole p n zero h = refl
zeros-whole {v} p n (suc k) h =
    ap₂ (λ (b t : Expr). Ite (Compare Eq b (Const 1 1)) (Const (n - 1 - k) n) t)
    (bit-of p 0 n k h ∙ sym (p k k ∙ ap₂ (λ (x y : ℕ). Extract v x y) (omega arith) (omega arith))) (zeros-whole p n k (omega arith))

-- the cuts inside a lane
cut_of : {v : Expr} → Plain v → (base n hi lo : ℕ) → hi < n → extract_collapsing (lane_from v base n) hi lo ≡ Extract v (hi + base) (lo + base)
cut_of p base n hi lo h = rw (le-leb (hi + base) (n - 1 + base) (omega arith)) (p (hi + base) (lo + base))

pub sign-bits : {w0 w1 w2 w3 w4 w5 : List ℕ} {k : ℕ} {r1 r2 r3 r4 r5 : Built} {value : Node} {base n : ℕ} → 2 ≤ n → n ≤ 64
    → MadeExtract w0 k w1 r1 value (n - 1 + base) (1 + base)
    → MadeExtract w1 r1.count w2 r2 value (n - 1 - 1 + base) base
    → MadeBv w2 r2.count w3 r3 Xor r1.node r2.node
    → BuildsLane w3 r3.count w4 r4 (5 * (n - 1) + 1) r3.node 0 (n - 1) (n - 1) (λ v. leading_zeros v (n - 1) (n - 1)) (r3.node.0 ∷ [])
    → MadeZeroExtend w4 r4.count w5 r5 r4.node n
    → BuildsLane w0 k w5 r5 (5 * n + 1) value base n n (λ v. bitwise_unary_lane LeadingSignBits v n) (value.0 ∷ [])
unfolding Arith.bitwise_unary_lane
sign-bits {value = value} {base = base} {n = n} l m e1 e2 e3 e4 e5 =
    let some : 1 ≤ n - 1 = omega arith in
    record {
      sized = omega (arith, e1.sized, e2.sized, e3.sized, e4.sized, e5.sized);
      made = λ {wa} {ta} v p i x.
          let s0 = start v (given value.0 wa ta ∷ []) (x, tt) in
          let s1 = step s0 (0 ∷ []) (e1.made {u = n - 1} s0.valid (omega arith) (omega arith) s0.env.0) in
          let s2 = step s1 (1 ∷ []) (e2.made {u = n - 1} s1.valid (omega arith) (omega arith) s1.env.1.0) in
          let s3 = step s2 (1 ∷ 0 ∷ []) (e3.made s2.valid some (omega arith) s2.env.1.0 s2.env.0) in
          let s4 = step s3 (0 ∷ []) (e4.made s3.valid (λ h l. refl) (omega arith) s3.env.0) in
          rw (cut_of p base n (n - 1) 1 (omega arith), cut_of p base n (n - 1 - 1) 0 (omega arith), zero-add base, ← zeros-whole (λ h l. refl) (n - 1) (n - 1) (omega arith))
          (finish (step s4 (0 ∷ []) (e5.made s4.valid some (omega arith) (omega arith) s4.env.0)) tt);
    }

-- ---- the reversal: bits as lanes of width 1

pub reversed-bit : {w0 w1 : List ℕ} {k : ℕ} {r : Built} {value : Node} {at : ℕ} (wa base n j : ℕ) → j < n → base + n ≤ wa → at ≡ n - 1 - j + base
    → MadeExtract w0 k w1 r value at at
    → Lowers w0 k w1 r 1 1 unread (read value wa) unread (λ d a b. reversed_from base n d a b j) (value.0 ∷ [])
reversed-bit wa base n j h i q e = rw (← q) (record { sized = e.sized; made = λ v x y z. e.made {w = wa} {u = 1} v (omega arith) (omega arith) (y refl) })

reversed-are : {v : Expr} → Plain v → (base n m : ℕ) → m < n
    → concat_lanes m (λ j. extract_collapsing (lane_from v base n) (n - 1 - j) (n - 1 - j)) ≡ concat_lanes m (reversed_from base n v v v)
unfolding concat_lanes
reversed-are p base n zero h = bit-of p base n (n - 1 - 0) (omega arith)
reversed-are p base n (suc m) h = ap₂ Concat (bit-of p base n (n - 1 - suc m) (omega arith)) (reversed-are p base n m (omega arith))

pub reversed-all : {w0 w1 : List ℕ} {k : ℕ} {r : Built} {value : Node} {base n i : ℕ} → 1 ≤ n → i ≡ n
    → ((wa : ℕ) → base + n ≤ wa → LanesTo w0 k w1 r 2 1 unread (read value wa) unread (reversed_from base n) (value.0 ∷ []) i)
    → BuildsLane w0 k w1 r (2 * n) value base n n (λ v. bitwise_unary_lane ReverseBits v n) (value.0 ∷ [])
unfolding Arith.bitwise_unary_lane
reversed-all {w0} {w1} {k} {r} {value} {base} {n} {i} some e d =
    let all : (wa : ℕ) → base + n ≤ wa → LanesTo w0 k w1 r 2 1 unread (read value wa) unread (reversed_from base n) (value.0 ∷ []) n = λ wa l.
    subst (λ (j : ℕ). LanesTo w0 k w1 r 2 1 unread (read value wa) unread (reversed_from base n) (value.0 ∷ []) j) e (d wa l) in
    record {
      sized = (all (base + n) (omega arith)).sized;
      made = λ {wa} {ta} v p l x.
          rw (reversed-are p base n (n - 1) (omega arith))
          (subst (λ (w : ℕ). Makes w0 k w1 r w (concat_lanes (n - 1) (reversed_from base n ta ta ta)) (value.0 ∷ [])) (one-mul n)
          ((all wa l).made {td = ta} {ta = ta} {tb = ta} v (λ u. absurd (false≢true u)) (λ u. x) (λ u. absurd (false≢true u))));
    }

-- ---- the lane of each kind

module _ {w0 w1 : List ℕ} {k : ℕ} {r : Built} {value : Node} {base n : ℕ} {op : BitwiseUnary} where
  pub lane_count : op ≡ PopulationCount
      → BuildsLane w0 k w1 r (3 * n + 1) value base n n (λ v. population_count v n n) (value.0 ∷ [])
      → BuildsLane w0 k w1 r (5 * n + 1) value base n n (λ v. bitwise_unary_lane op v n) (value.0 ∷ [])
  unfolding Arith.bitwise_unary_lane
  lane_count q d = rw q (record { sized = omega (arith, d.sized); made = d.made })

  pub lane-zeros : op ≡ LeadingZeros
      → BuildsLane w0 k w1 r (5 * n + 1) value base n n (λ v. leading_zeros v n n) (value.0 ∷ [])
      → BuildsLane w0 k w1 r (5 * n + 1) value base n n (λ v. bitwise_unary_lane op v n) (value.0 ∷ [])
  unfolding Arith.bitwise_unary_lane
  lane-zeros q d = rw q d

  pub lane-signs : op ≡ LeadingSignBits
      → BuildsLane w0 k w1 r (5 * n + 1) value base n n (λ v. bitwise_unary_lane LeadingSignBits v n) (value.0 ∷ [])
      → BuildsLane w0 k w1 r (5 * n + 1) value base n n (λ v. bitwise_unary_lane op v n) (value.0 ∷ [])
  lane-signs q d = rw q d

  pub lane-reversed : op ≡ ReverseBits
      → BuildsLane w0 k w1 r (2 * n) value base n n (λ v. bitwise_unary_lane ReverseBits v n) (value.0 ∷ [])
      → BuildsLane w0 k w1 r (5 * n + 1) value base n n (λ v. bitwise_unary_lane op v n) (value.0 ∷ [])
  lane-reversed q d = rw q (record { sized = omega (arith, d.sized); made = d.made })
