-- The clauses of a gate are true at every start. Assumes nothing.
use mathlib.Core.Path.{◌≡◌, refl, ◌∙◌}
use mathlib.Core.Bool.{Bool, true, false, not, ◌&&◌, ◌||◌}
use mathlib.Core.List.{List, [], ◌∷◌}
use mathlib.Core.Logic.{⊎_elim}
use Prim.Native.Nat.{ℕ, zero, suc, ◌+◌, ◌/◌, ◌%◌, ◌<◌}
use native.Mathlib.Omega.{arith}
use lib.Dec.{ltb, eqb}
use borrow.Author.Tests.{ltb-true, eqb-true, eqb-false, ne_eqb}
use Rattle.facts.proofs.Tests.{and_both}
use Rattle.gates.specs.Graph.{inputs, variable, inverted, left_at, right_at, flip, variable_truth, truth, gate_ok, gates_ok}
use Rattle.gates.specs.Grow.{negated, literal_of}
use Rattle.gates.proofs.Truth as graph
use Rattle.gates.proofs.Laws.{negated-truth}
use Rattle.refutation.specs.Refutation.{gate_clause}
use Rattle.refutation.proofs.Cases.{by_cond, split}

-- every gate below the count comes after its operands
pub gate-good : (g : List ℕ) (count k : ℕ) → gates_ok g count ≡ true → k < count → (variable (left_at g k) < inputs + k) × (variable (right_at g k) < inputs + k)
unfolding gates_ok
gate-good g zero k h l = absurd (omega arith)
gate-good g (suc n) k h l = let p = and_both (gates_ok g n) (gate_ok g n) h in ⊎_elim (here p) (λ e. gate-good g n k p.0 (less e)) (split (eqb k n))
  where
    here : (gates_ok g n ≡ true) × (gate_ok g n ≡ true) → eqb k n ≡ true → (variable (left_at g k) < inputs + k) × (variable (right_at g k) < inputs + k)
    here p e =
        let q = and_both (ltb (variable (left_at g n)) (inputs + n)) (ltb (variable (right_at g n)) (inputs + n)) p.1 in
        rw (eqb-true k n e) (ltb-true _ _ q.0, ltb-true _ _ q.1)

    less : eqb k n ≡ false → k < n
    less e = let d = eqb-false k n e in omega (arith, d)

-- a gate is true if both operands are, and only then
gate-truth :
    (start : ℕ → ℕ) (g : List ℕ) (k : ℕ) → variable (left_at g k) < inputs + k → variable (right_at g k) < inputs + k
    → truth start g (literal_of k) ≡ (truth start g (left_at g k) && truth start g (right_at g k))
gate-truth start g k a b =
    let v : literal_of k / 2 ≡ inputs + k = omega arith in
    let even : inverted (literal_of k) ≡ false = ne_eqb (literal_of k % 2) 1 (λ z. omega (arith, z)) in
    (λ i. flip (even i) (variable_truth start g (v i))) ∙ graph.gate-truth start g k (omega arith) (omega arith)

-- a clause is true if one of its literals is
unfoldable pub holds : (ℕ → Bool) → List ℕ → Bool
holds σ [] = false
holds σ (l ∷ clause) = σ l || holds σ clause

implied : (x a b c : Bool) → c ≡ not x → x ≡ (a && b) → (c || (a || false)) ≡ true
implied x true b c e f = rw (e, f) (either b)
  where
    either : (b : Bool) → (not b || true) ≡ true
    either true = refl
    either false = refl
implied x false b c e f = rw (e, f) refl

implied-right : (x a b c : Bool) → c ≡ not x → x ≡ (a && b) → (c || (b || false)) ≡ true
implied-right x true true c e f = rw (e, f) refl
implied-right x true false c e f = rw (e, f) refl
implied-right x false true c e f = rw (e, f) refl
implied-right x false false c e f = rw (e, f) refl

implies : (x a b c d : Bool) → c ≡ not a → d ≡ not b → x ≡ (a && b) → (x || (c || (d || false))) ≡ true
implies x true true c d p q e = rw e refl
implies x true false c d p q e = rw (e, p, q) refl
implies x false b c d p q e = rw (e, p) refl

-- the clauses of a gate are true at every start
pub gate-holds :
    (start : ℕ → ℕ) (g : List ℕ) (count : ℕ) → gates_ok g count ≡ true → (k part : ℕ) → k < count → holds (truth start g) (gate_clause g k part) ≡ true
unfolding holds
gate-holds start g count good k part h =
    let σ = truth start g in
    let r = gate-good g count k good h in
    let e = gate-truth start g k r.0 r.1 in
    let x = σ (literal_of k) in
    let a = σ (left_at g k) in
    let b = σ (right_at g k) in
    by_cond (λ (c : List ℕ). holds σ c ≡ true) (eqb part 0) (λ _. implied x a b (σ (negated (literal_of k))) (negated-truth start g (literal_of k)) e)
    (λ _. by_cond (λ (c : List ℕ). holds σ c ≡ true) (eqb part 1) (λ _. implied-right x a b (σ (negated (literal_of k))) (negated-truth start g (literal_of k)) e)
    (λ _. implies x a b (σ (negated (left_at g k))) (σ (negated (right_at g k))) (negated-truth start g (left_at g k))
    (negated-truth start g (right_at g k)) e))
