-- `Refuted`: a literal with an accepted refutation is false at every start. Assumes nothing.
use mathlib.Core.Path.{◌≡◌, refl}
use mathlib.Core.Bool.{Bool, true, ◌&&◌, false≢true}
use mathlib.Core.List.{List, [], ◌∷◌, ◌++◌}
use mathlib.Core.Logic.{⊎_elim}
use Prim.Native.Nat.{ℕ, zero, suc, ◌+◌, ◌<◌}
use native.Mathlib.Omega.{arith}
use lib.Dec.{ltb, leb, eqb}
use lib.ListN.{length, get_or, length-append, get_or-append}
use lib.Seq.{get_or-append_seam}
use borrow.Author.Tests.{eqb-true}
use Rattle.facts.proofs.Tests.{and_both, passed}
use Rattle.facts.proofs.Numbers.{before-or-from}
use Rattle.gates.specs.Graph.{inputs, variable, truth, gates_ok, graph_ok}
use Rattle.gates.specs.Grow.{literal_of}
use Rattle.gates.proofs.Truth.{false-truth}
use Rattle.gates.proofs.Laws.{negated-truth}
use Rattle.refutation.specs.Refutation.{and_false, conflict, whole, listed, after, among, all_below, step_ok, refused_from, refused_step, Refuted}
use Rattle.refutation.proofs.Cases.{by_cond, split}
use Rattle.refutation.proofs.Gate.{holds, gate-holds}
use Rattle.refutation.proofs.Propagation.{Known, one-more-false, no-conflict, none_true}

-- the clause of an accepted step is true
pub step-holds :
    {σ : ℕ → Bool} {g : List ℕ} {count : ℕ} {steps : List (List ℕ)} → Known σ g count steps → (ws : List ℕ) → step_ok g count steps ws ≡ true
    → holds σ (listed ws) ≡ true
step-holds {σ} {g} {count} {steps} known ws e =
    let before = (whole ws && whole (after ws)) && all_below (literal_of count) (listed ws) in
    let r = and_both before (conflict g count steps (and_false (among (listed ws)) 0) (listed (after ws))) e in
    ⊎_elim (λ h. h) (λ h.
    absurd
    (no-conflict known (and_false (among (listed ws)) 0) (one-more-false σ (among (listed ws)) 0 (none_true σ (listed ws) h) known.constant)
    (listed (after ws)) r.1)) (split (holds σ (listed ws)))

one_more :
    {σ : ℕ → Bool} {g : List ℕ} {count : ℕ} {steps : List (List ℕ)} → Known σ g count steps → (clause : List ℕ) → holds σ clause ≡ true
    → Known σ g count (steps ++ (clause ∷ []))
one_more {σ} {g} {count} {steps} known clause h = record {
  constant = known.constant;
  negations = known.negations;
  gates = known.gates;
  done = λ j l.
      ⊎_elim (λ (b : j < length steps). rw (get_or-append steps (clause ∷ []) [] j b) (known.done j b))
      (λ b.
      let e : j ≡ length steps = omega (arith, length-append steps (clause ∷ [])) in
      rw (e, get_or-append_seam steps clause [] []) h) (before-or-from j (length steps));
}

-- if an empty clause is accepted after some steps, their clauses are not all true
no-empty :
    {σ : ℕ → Bool} {g : List ℕ} {count : ℕ} (f : ℕ) (steps : List (List ℕ)) (ws : List ℕ) → Known σ g count steps → 0 < length steps
    → refused_from f g count steps ws ≡ 0 → ⊥
unfolding refused_from holds
no-empty zero steps ws known some = λ e. omega (arith, e)
no-empty {σ} {g} {count} (suc f) steps ws known some =
    by_cond (λ (n : ℕ). n ≡ 0 → ⊥) (step_ok g count steps ws)
    (λ ok.
    let h = step-holds known ws ok in
    by_cond (λ (n : ℕ). n ≡ 0 → ⊥) (eqb (get_or ws 0 0) 0) (λ z _. empty-fails σ ws (eqb-true (get_or ws 0 0) 0 z) h)
    (λ _. no-empty f (steps ++ (listed ws ∷ [])) (after (after ws)) (one_more known (listed ws) h) (omega (arith, length-append steps (listed ws ∷ [])))))
    (λ _ e. omega (arith, e))
  where
    empty-fails : (σ : ℕ → Bool) (ws : List ℕ) → get_or ws 0 0 ≡ 0 → holds σ (listed ws) ≡ true → ⊥
    empty-fails σ ws z h = false≢true (rw z at h)

assumed : (start : ℕ → ℕ) (g : List ℕ) (count l : ℕ) → gates_ok g count ≡ true → truth start g l ≡ true → Known (truth start g) g count ((l ∷ []) ∷ [])
unfolding holds
assumed start g count l good t = record {
  constant = false-truth start g;
  negations = negated-truth start g;
  gates = gate-holds start g count good;
  done = λ j h. let z : j ≡ 0 = omega arith in rw (z, t) refl;
}

pub refuted : Refuted
unfolding refused_step graph_ok
refuted g count l ws marks starts e start =
    let p = passed (graph_ok g count) (λ z. omega (arith, z)) e in
    let q = passed (ltb (variable l) (inputs + count)) (λ z. omega (arith, z)) p.1 in
    let r = passed (leb (literal_of count) marks && _) (λ z. omega (arith, z)) q.1 in
    let s = passed (eqb (refused_step g count l ws) 0) (λ z. omega (arith, z)) r.1 in
    let good = and_both (ltb count (suc (length g))) (gates_ok g count) p.0 in
    ⊎_elim (λ t. absurd (no-empty (length ws) ((l ∷ []) ∷ []) ws (assumed start g count l good.1 t) (omega arith) (eqb-true _ 0 s.0))) (λ t. t)
    (split (truth start g l))
