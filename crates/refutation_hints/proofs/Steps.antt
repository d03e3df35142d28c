-- The clauses of the steps so far: how many, which, one more; what a hint leaves of a clause, and that it is a literal of the graph. Assumes nothing.
use mathlib.Core.Path.{◌≡◌, refl, ap, ◌∙◌}
use mathlib.Core.Bool.{Bool, true, cond}
use mathlib.Core.List.{List, [], ◌∷◌, ◌++◌}
use mathlib.Core.Logic.{⊎_elim}
use Prim.Native.Nat.{ℕ, zero, suc, ◌+◌, ◌/◌, ◌%◌, ◌≤◌, ◌<◌}
use native.Mathlib.Numerals.{add-one}
use native.Mathlib.Omega.{arith}
use lib.Dec.{ltb, eqb}
use lib.ListN.{length, get_or, drop, set, length-append, get_or-append}
use lib.Seq.{get_or_at, get_or-set_same, get_or-set_other}
use borrow.Author.Tests.{ltb-true, lt-ltb, le-ltb, eqb-false, eq-eqb, ne_eqb}
use Rattle.facts.proofs.Tests.{and_both}
use Rattle.facts.proofs.Numbers.{before-or-from}
use Rattle.gates.specs.Graph.{inputs, variable, left_at, right_at, gates_ok, graph_ok}
use Rattle.gates.specs.Grow.{negated, literal_of}
use Rattle.refutation.specs.Refutation.{gate_clause, kept, remains, cited, listed, all_below}
use Rattle.refutation.proofs.Cases.{by_cond}
use Rattle.refutation.proofs.Gate.{gate-good}
use Rattle.refutation_hints.specs.Memory.{clause_at, clauses_to, Ready}

module _ (ws starts : List ℕ) (l : ℕ) where
  pub clauses-length : (k : ℕ) → length (clauses_to ws starts l k) ≡ k
  unfolding clauses_to
  clauses-length zero = refl
  clauses-length (suc k) = length-append (clauses_to ws starts l k) (clause_at ws starts l k ∷ []) ∙ rw (clauses-length k) (add-one k)

  pub clauses-at : (k j : ℕ) → j < k → get_or (clauses_to ws starts l k) j [] ≡ clause_at ws starts l j
  unfolding clauses_to
  clauses-at zero j h = absurd (omega arith)
  clauses-at (suc k) j h =
      let n = clauses-length k in
      ⊎_elim
      (λ (b : j < k). get_or-append (clauses_to ws starts l k) (clause_at ws starts l k ∷ []) [] j (omega (arith, n, b)) ∙ clauses-at k j b)
      (λ (b : k ≤ j).
      let e : j ≡ k = omega arith in
      rw e (get_or_at (clauses_to ws starts l k) (clause_at ws starts l k) [] [] k n)) (before-or-from j k)

  clauses-set : (k i at : ℕ) → k ≤ i → clauses_to ws (set starts i at) l k ≡ clauses_to ws starts l k
  unfolding clauses_to
  clauses-set zero i at h = refl
  clauses-set (suc k) i at h =
      rw (get_or-set_other starts i k at 0 (λ e. omega (arith, e)), clauses-set k i at (omega arith)) refl

  -- the clause of step k is put to those before it
  pub clauses-more :
      (k at : ℕ) → 0 < k → k < length starts → clauses_to ws (set starts k at) l (k + 1) ≡ clauses_to ws starts l k ++ (listed (drop at ws) ∷ [])
  unfolding clauses_to
  clauses-more k at h i =
      rw (add-one, clauses-set k k at (omega arith), ne_eqb k 0 (λ e. omega (arith, e)), get_or-set_same starts k at 0 i) refl

  module _ (g : List ℕ) (count k : ℕ) (isFalse : ℕ → Bool) (v : ℕ) where
    pub cited-step :
        v % 4 ≡ 3 → v / 4 < k → cited g count (clauses_to ws starts l k) isFalse v ≡ remains isFalse 0 (clause_at ws starts l (v / 4))
    cited-step e h =
        rw (eq-eqb (v % 4) 3 e, clauses-length k, lt-ltb (v / 4) k h) (ap (remains isFalse 0) (clauses-at k (v / 4) h))

    pub no_step : v % 4 ≡ 3 → k ≤ v / 4 → cited g count (clauses_to ws starts l k) isFalse v ≡ 1
    no_step e h = rw (eq-eqb (v % 4) 3 e, clauses-length k, le-ltb (v / 4) k h) refl

pub one_left : (isFalse : ℕ → Bool) (l : ℕ) → remains isFalse 0 (l ∷ []) ≡ cond (isFalse l) 0 (kept 0 l)
unfolding remains
one_left isFalse l = refl

-- a gate of a good graph
pub gate-at :
    (g : List ℕ) (count n : ℕ) → graph_ok g count ≡ true → n < count
    → (n < length g) × (variable (left_at g n) < inputs + n) × (variable (right_at g n) < inputs + n)
unfolding graph_ok
gate-at g count n e h =
    let p = and_both (ltb count (suc (length g))) (gates_ok g count) e in
    let q = gate-good g count n p.1 h in
    let b = ltb-true count (suc (length g)) p.0 in (omega arith, q.0, q.1)

-- what is left of literals below n is nothing, too much, or one of them
remains-low : (n : ℕ) (isFalse : ℕ → Bool) (left : ℕ) (clause : List ℕ) → 0 < n → left < n + 2 → all_below n clause ≡ true → remains isFalse left clause < n + 2
unfolding remains all_below
remains-low n isFalse left [] z h a = h
remains-low n isFalse left (l ∷ clause) z h a =
    let p = and_both (ltb l n) (all_below n clause) a in
    let b = ltb-true l n p.0 in
    remains-low n isFalse (cond (isFalse l) left (kept left l)) clause z
    (by_cond (λ (x : ℕ). x < n + 2) (isFalse l) (λ _. h)
    (λ _. by_cond (λ (x : ℕ). x < n + 2) (eqb left 0) (λ _. omega arith)
    (λ _. by_cond (λ (x : ℕ). x < n + 2) (eqb left (l + 2)) (λ _. h) (λ _. omega arith)))) p.1

negated-less : (x n k : ℕ) → x / 2 < inputs + k → k ≤ n → negated x < literal_of n
negated-less x n k a b = omega arith

less : (x n k : ℕ) → x / 2 < inputs + k → k < n → x < literal_of n
less x n k a b = omega arith

gate-low : (g : List ℕ) (count n part : ℕ) → graph_ok g count ≡ true → n < count → all_below (literal_of count) (gate_clause g n part) ≡ true
unfolding all_below
gate-low g count n part e h =
    let q = gate-at g count n e h in
    let a = left_at g n in
    let b = right_at g n in
    let inv = lt-ltb (negated (literal_of n)) (literal_of count) (negated-less (literal_of n) count count (omega arith) (omega arith)) in
    by_cond (λ (c : List ℕ). all_below (literal_of count) c ≡ true) (eqb part 0) (λ _. rw (inv, lt-ltb a (literal_of count) (less a count n q.1 h)) refl)
    (λ _. by_cond (λ (c : List ℕ). all_below (literal_of count) c ≡ true) (eqb part 1) (λ _. rw (inv, lt-ltb b (literal_of count) (less b count n q.2 h)) refl)
    (λ _. rw (
      lt-ltb (literal_of n) (literal_of count) (omega arith),
      lt-ltb (negated a) (literal_of count) (negated-less a count n q.1 (omega arith)),
      lt-ltb (negated b) (literal_of count) (negated-less b count n q.2 (omega arith)),
    ) refl))

clause-low :
    {g : List ℕ} {count l : ℕ} {ws starts : List ℕ} {k : ℕ} {marks : List ℕ} → Ready g count l ws starts k marks → (j : ℕ) → j < k
    → all_below (literal_of count) (clause_at ws starts l j) ≡ true
unfolding all_below
clause-low {g} {count} {l} ready j h =
    by_cond (λ (c : List ℕ). all_below (literal_of count) c ≡ true) (eqb j 0) (λ _. rw (lt-ltb l (literal_of count) (omega (arith, ready.literal))) refl)
    (λ e. (ready.placed j (omega (arith, eqb-false j 0 e)) h).1)

-- what a hint leaves is nothing, too much, or a literal of the graph
pub cited-low :
    {g : List ℕ} {count l : ℕ} {ws starts : List ℕ} {k : ℕ} {marks : List ℕ} → Ready g count l ws starts k marks → (isFalse : ℕ → Bool) (v : ℕ)
    → cited g count (clauses_to ws starts l k) isFalse v < literal_of count + 2
cited-low {g} {count} {l} {ws} {starts} {k} ready isFalse v =
    by_cond (λ (x : ℕ). x < literal_of count + 2) (eqb (v % 4) 3)
    (λ _. by_cond (λ (x : ℕ). x < literal_of count + 2) (ltb (v / 4) (length (clauses_to ws starts l k)))
    (λ h.
    let j = ltb-true (v / 4) k (rw (clauses-length ws starts l k) at h) in
    remains-low (literal_of count) isFalse 0 (get_or (clauses_to ws starts l k) (v / 4) []) (omega arith) (omega arith)
    (rw (clauses-at ws starts l k (v / 4) j) (clause-low ready (v / 4) j))) (λ _. omega arith))
    (λ _. by_cond (λ (x : ℕ). x < literal_of count + 2) (ltb (v / 4) count)
    (λ h.
    remains-low (literal_of count) isFalse 0 (gate_clause g (v / 4) (v % 4)) (omega arith) (omega arith)
    (gate-low g count (v / 4) (v % 4) ready.good (ltb-true (v / 4) count h))) (λ _. omega arith))
