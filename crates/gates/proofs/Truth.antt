-- The truth of a literal: it does not go by more levels than are needed, nor by words from its count on; that of a gate. Assumes nothing.
use mathlib.Core.Path.{◌≡◌, refl, sym, ap, ◌∙◌}
use mathlib.Core.Bool.{Bool, true, false, cond, not, ◌&&◌}
use mathlib.Core.List.{List}
use Prim.Native.Nat.{ℕ, zero, suc, ◌+◌, ◌-◌, ◌*◌, ◌/◌, ◌%◌, ◌≤◌, ◌<◌}
use native.Mathlib.Omega.{arith}
use native.Mathlib.Nat.{not-suc-le-zero}
use lib.Dec.{ltb, eqb}
use lib.ListN.{length, get_or}
use borrow.Author.Tests.{lt-ltb, le-ltb, ltb-true, ltb-false, eq-eqb, ne_eqb, eqb-true, eqb-false}
use Rattle.gates.specs.Graph.{inputs, variable, inverted, left_at, right_at, left_of, right_of, flip, input_truth, earlier, variable_to, variable_truth, truth}
use Rattle.gates.specs.Grow.{negated, Under}

earlier-same : (b : Bool) {x y : Bool} → (b ≡ true → x ≡ y) → earlier b x ≡ earlier b y
earlier-same true h = h refl
earlier-same false h = refl

-- two graphs that agree below k, and two numbers of levels that are enough
module _ (start : ℕ → ℕ) (g h : List ℕ) (k : ℕ) (agree : (i : ℕ) → i < k → get_or h i 0 ≡ get_or g i 0) where
  pub same-variable : (m n v : ℕ) → v < inputs + k → v < m → v < n → variable_to m start g v ≡ variable_to n start h v
  unfolding variable_to
  same-variable zero n v l p q = absurd (not-suc-le-zero p)
  same-variable (suc m) zero v l p q = absurd (not-suc-le-zero q)
  same-variable (suc m) (suc n) v l p q =
      go
      (λ x. earlier-same (ltb x v) (λ t. let d = ltb-true x v t in same-variable m n x (omega arith) (omega arith) (omega arith)))
      (ltb v inputs)
      refl
    where
      go : ((x : ℕ) → earlier (ltb x v) (variable_to m start g x) ≡ earlier (ltb x v) (variable_to n start h x)) → (b : Bool) → ltb v inputs ≡ b
          → variable_to (suc m) start g v ≡ variable_to (suc n) start h v
      go operand true e = rw e
      go operand false e =
          let d = ltb-false v inputs e in
          rw (agree (v - inputs) (omega arith))
          (λ i.
          cond (ltb v inputs) (input_truth start v)
          (flip (inverted (left_at g (v - inputs))) (operand (variable (left_at g (v - inputs))) i)
          && flip (inverted (right_at g (v - inputs))) (operand (variable (right_at g (v - inputs))) i)))

-- words from the count on do not matter to a literal below it
pub same_truth : (start : ℕ → ℕ) (g h : List ℕ) (k l : ℕ) → ((i : ℕ) → i < k → get_or h i 0 ≡ get_or g i 0) → Under l k → truth start h l ≡ truth start g l
unfolding variable_truth
same_truth start g h k l agree u =
    ap (flip (inverted l)) (sym (same-variable start g h k agree (suc (variable l)) (suc (variable l)) (variable l) (omega arith) (omega arith) (omega arith)))

-- the truth of gate k, whose literals come before it
pub gate-truth : (start : ℕ → ℕ) (g : List ℕ) (k : ℕ) → Under (left_at g k) k → Under (right_at g k) k
    → variable_truth start g (inputs + k) ≡ (truth start g (left_at g k) && truth start g (right_at g k))
unfolding variable_truth variable_to
gate-truth start g k p q =
    let levels : (x : ℕ) → x < inputs + k → variable_to (inputs + k) start g x ≡ variable_to (suc x) start g x =
    λ x l. same-variable start g g k (λ i h. refl) (inputs + k) (suc x) x l l (omega arith) in
    let back : inputs + k - inputs ≡ k = omega arith in
    rw (
      back,
      le-ltb (inputs + k) inputs (omega arith),
      lt-ltb (variable (left_at g k)) (inputs + k) (omega arith),
      lt-ltb (variable (right_at g k))
          (inputs + k) (omega arith),
    )
    (rw (levels (variable (left_at g k)) (omega arith), levels (variable (right_at g k)) (omega arith)))

-- the two literals of a variable
pub negated-variable : (l : ℕ) → variable (negated l) ≡ variable l
negated-variable l = omega arith

pub negated-inverted : (l : ℕ) → inverted (negated l) ≡ not (inverted l)
negated-inverted l = go (eqb (l % 2) 1) refl
  where
    go : (b : Bool) → eqb (l % 2) 1 ≡ b → eqb (negated l % 2) 1 ≡ not b
    go true e = ne_eqb (negated l % 2) 1 (λ q. omega (arith, eqb-true (l % 2) 1 e, q))
    go false e = let odd = eqb-false (l % 2) 1 e in eq-eqb (negated l % 2) 1 (omega arith)

-- the two constants
pub false-truth : (start : ℕ → ℕ) (g : List ℕ) → truth start g 0 ≡ false
unfolding variable_truth variable_to input_truth
false-truth start g = refl

pub true-truth : (start : ℕ → ℕ) (g : List ℕ) → truth start g 1 ≡ true
unfolding variable_truth variable_to input_truth
true-truth start g = refl
