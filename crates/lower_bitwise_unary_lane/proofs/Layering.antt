-- The loops over a lane's bits: what the bits below i make, with bit i put above them. Assumes nothing.
use Prim.Native.Nat.{ℕ, zero, suc, ◌+◌, ◌-◌, ◌*◌, ◌^◌, ◌≤◌, ◌<◌}
use mathlib.Core.Path.{◌≡◌, refl, sym, subst}
use mathlib.Core.List.{List, [], ◌∷◌}
use native.Mathlib.Omega.{arith}
use native.Mathlib.Nat.{lt_of_le_of_lt}
use native.Mathlib.Numerals.{add-one}
use borrow.Author.Tests.{le-leb}
use Rattle.facts.proofs.Numbers.{below}
use Rattle.terms.specs.declared.BinOp.TheVariants.{Add}
use Rattle.terms.specs.declared.CmpOp.TheVariants.{Eq}
use Rattle.terms.specs.Expr.{Expr, Const, Extract}
use Rattle.pool.specs.declared.Node.{Node}
use Rattle.pool.specs.declared.Built.{Built}
use Rattle.pool_nodes.specs.Builders.{MadeConst, MadeBv, MadeCompare, MadeIte, MadeExtract, MadeZeroExtend}
use Rattle.pool.proofs.Steps.{start, step, finish, forget, given}
use Rattle.trees.specs.Simd.{extract_collapsing}
use Rattle.trees.specs.Trees.{leading_zeros, population_count, zeros_at, count_bit_at}
use Rattle.trees.specs.Arith as Arith
use Rattle.lower_bitwise_unary_lane.specs.Layers.{Plain, lane_from, BuildsLane, BuildsLane2}

-- a number of at most n fits n bits
pub fits : (n c : ℕ) → c ≤ n → c < 2 ^ n
fits n c h = lt_of_le_of_lt h (below n)

-- the answer reaches the lane once a bit of it is read
abbrev pub read_by : ℕ → ℕ → List ℕ
read_by v zero = []
read_by v (suc i) = v ∷ []

module _ (old : List ℕ) (k : ℕ) (new : List ℕ) (r : Built) where
  -- the bits below i, of at most m nodes each, above a constant
  abbrev pub BitsTo : (m base n : ℕ) (value : Node) (f : Expr → ℕ → Expr) → ℕ → Type 0
  BitsTo m base n value f i = BuildsLane old k new r (m * i + 1) value base n n (λ v. f v i) (read_by value.0 i)

pub bits_none : {w0 w1 : List ℕ} {k : ℕ} {r : Built} {value : Node} {base n : ℕ} (m : ℕ) (f : Expr → ℕ → Expr) (c : ℕ) → 1 ≤ n → n ≤ 64 → c ≤ n
    → ((v : Expr) → f v 0 ≡ Const c n)
    → MadeConst w0 k w1 r c 0 n
    → BitsTo w0 k w1 r m base n value f 0
bits_none {base = base} {n = n} m f c l b h q e =
    record {
      sized = omega (arith, e.sized);
      made = λ {wa} {ta} v p i x. rw (q (lane_from ta base n)) (e.made v l (omega arith) (omega arith) (fits n c h));
    }

bits-suc : {w0 w1 w2 : List ℕ} {k : ℕ} {r1 r2 : Built} {value : Node} {base n i : ℕ} (m : ℕ) (f : Expr → ℕ → Expr) (g : Expr → ℕ → Expr → Expr)
    → ((v : Expr) → f v (suc i) ≡ g v i (f v i))
    → BitsTo w0 k w1 r1 m base n value f i
    → BuildsLane2 w1 r1.count w2 r2 m value base n r1.node n n (λ v t. g v i t) (value.0 ∷ r1.node.0 ∷ [])
    → BitsTo w0 k w2 r2 m base n value f (suc i)
bits-suc {value = value} {base = base} {n = n} {i = i} m f g q e1 e2 =
    record {
      sized = omega (arith, e1.sized, e2.sized);
      made = λ {wa} {ta} v p l x.
          let s0 = start v (given value.0 wa ta ∷ []) (x, tt) in
          let s1 = step s0 [] (forget (e1.made s0.valid p l s0.env.0)) in
          rw (q (lane_from ta base n)) (finish (step s1 (1 ∷ 0 ∷ []) (e2.made s1.valid p l s1.env.1.0 s1.env.0)) tt);
    }

pub bits-more : {w0 w1 w2 : List ℕ} {k : ℕ} {r1 r2 : Built} {value : Node} {base n i : ℕ} (m : ℕ) (f : Expr → ℕ → Expr) (g : Expr → ℕ → Expr → Expr)
    → ((v : Expr) → f v (suc i) ≡ g v i (f v i))
    → BitsTo w0 k w1 r1 m base n value f i
    → BuildsLane2 w1 r1.count w2 r2 m value base n r1.node n n (λ v t. g v i t) (value.0 ∷ r1.node.0 ∷ [])
    → BitsTo w0 k w2 r2 m base n value f (i + 1)
bits-more {w0} {w1} {w2} {k} {r1} {r2} {value} {base} {n} {i} m f g q e1 e2 =
    subst (λ (j : ℕ). BitsTo w0 k w2 r2 m base n value f j) (sym (add-one i)) (bits-suc m f g q e1 e2)

-- all of them
read_all : (v n : ℕ) → 1 ≤ n → read_by v n ≡ v ∷ []
read_all v zero h = absurd (omega arith)
read_all v (suc n) h = refl

pub bits-all : {w0 w1 : List ℕ} {k : ℕ} {r : Built} {value : Node} {base n i : ℕ} (m : ℕ) (f : Expr → ℕ → Expr) → 1 ≤ n → i ≡ n
    → BitsTo w0 k w1 r m base n value f i
    → BuildsLane w0 k w1 r (m * n + 1) value base n n (λ v. f v n) (value.0 ∷ [])
bits-all {w0} {w1} {k} {r} {value} {base} {n} m f l e d =
    subst (λ (l : List ℕ). BuildsLane w0 k w1 r (m * n + 1) value base n n (λ v. f v n) l) (read_all value.0 n l)
    (subst (λ (j : ℕ). BitsTo w0 k w1 r m base n value f j) e d)

-- ---- the two folds

abbrev pub zeros_to : ℕ → Expr → ℕ → Expr
zeros_to n v i = leading_zeros v n i

abbrev pub count_to : ℕ → Expr → ℕ → Expr
count_to n v i = population_count v n i

pub zeros-none : (n : ℕ) (v : Expr) → zeros_to n v 0 ≡ Const n n
unfolding Arith.leading_zeros
zeros-none n v = refl

pub zeros-more : (n i : ℕ) (v : Expr) → zeros_to n v (suc i) ≡ zeros_at n v i (zeros_to n v i)
unfolding Arith.leading_zeros
zeros-more n i v = refl

pub count_none : (n : ℕ) (v : Expr) → count_to n v 0 ≡ Const 0 n
unfolding Arith.population_count
count_none n v = refl

pub count-more : (n i : ℕ) (v : Expr) → count_to n v (suc i) ≡ count_bit_at n v i (count_to n v i)
unfolding Arith.population_count
count-more n i v = refl

-- a bit of the lane is a bit of what the lane is of
pub bit-of : {v : Expr} → Plain v → (base n j : ℕ) → j < n → extract_collapsing (lane_from v base n) j j ≡ Extract v (j + base) (j + base)
bit-of p base n j h = rw (le-leb (j + base) (n - 1 + base) (omega arith)) (p (j + base) (j + base))

pub zeros-at : {w0 w1 w2 w3 w4 w5 : List ℕ} {k : ℕ} {r1 r2 r3 r4 r5 : Built} {value rest : Node} {base n j : ℕ} → j < n → n ≤ 64
    → MadeExtract w0 k w1 r1 value (j + base) (j + base)
    → MadeConst w1 r1.count w2 r2 1 0 1
    → MadeCompare w2 r2.count w3 r3 Eq r1.node r2.node
    → MadeConst w3 r3.count w4 r4 (n - 1 - j) 0 n
    → MadeIte w4 r4.count w5 r5 r3.node r4.node rest
    → BuildsLane2 w0 k w5 r5 5 value base n rest n n (λ v t. zeros_at n v j t) (value.0 ∷ rest.0 ∷ [])
zeros-at {value = value} {rest = rest} {base = base} {n = n} {j = j} h b e1 e2 e3 e4 e5 =
    let l : 1 ≤ n = omega arith in
    let m : n ≤ 129 = omega arith in
    record {
      sized = omega (arith, e1.sized, e2.sized, e3.sized, e4.sized, e5.sized);
      made = λ {wa} {ta} {tb} v p i x y.
          let s0 = start v (given value.0 wa ta ∷ given rest.0 n tb ∷ []) (x, (y, tt)) in
          let s1 = step s0 (0 ∷ []) (e1.made {u = 1} s0.valid (omega arith) (omega arith) s0.env.0) in
          let s2 = step s1 [] (e2.made s1.valid (omega arith) (omega arith) refl (fits 1 1 (omega arith))) in
          let s3 = step s2 (1 ∷ 0 ∷ []) (e3.made s2.valid (omega arith) s2.env.1.0 s2.env.0) in
          let s4 = step s3 [] (e4.made s3.valid l m (omega arith) (fits n (n - 1 - j) (omega arith))) in
          rw (bit-of p base n j h) (finish (step s4 (1 ∷ 0 ∷ 5 ∷ []) (e5.made s4.valid l m s4.env.1.0 s4.env.0 s4.env.1.1.1.1.1.0)) tt);
    }

pub count_at : {w0 w1 w2 w3 : List ℕ} {k : ℕ} {r1 r2 r3 : Built} {value rest : Node} {base n j : ℕ} → j < n → n ≤ 64
    → MadeExtract w0 k w1 r1 value (j + base) (j + base)
    → MadeZeroExtend w1 r1.count w2 r2 r1.node n
    → MadeBv w2 r2.count w3 r3 Add rest r2.node
    → BuildsLane2 w0 k w3 r3 3 value base n rest n n (λ v t. count_bit_at n v j t) (value.0 ∷ rest.0 ∷ [])
count_at {value = value} {rest = rest} {base = base} {n = n} {j = j} h b e1 e2 e3 =
    let l : 1 ≤ n = omega arith in
    let m : n ≤ 129 = omega arith in
    record {
      sized = omega (arith, e1.sized, e2.sized, e3.sized);
      made = λ {wa} {ta} {tb} v p i x y.
          let s0 = start v (given value.0 wa ta ∷ given rest.0 n tb ∷ []) (x, (y, tt)) in
          let s1 = step s0 (0 ∷ []) (e1.made {u = 1} s0.valid (omega arith) (omega arith) s0.env.0) in
          let s2 = step s1 (0 ∷ []) (e2.made s1.valid (omega arith) l m s1.env.0) in
          rw (bit-of p base n j h) (finish (step s2 (3 ∷ 0 ∷ []) (e3.made s2.valid l m s2.env.1.1.1.0 s2.env.0)) tt);
    }
