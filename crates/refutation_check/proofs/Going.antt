-- The loop over the steps: what is known before step k at place `at`, at its start, after one more step, at its end. Assumes nothing.
use mathlib.Core.Path.{◌≡◌, refl, sym, ap, ◌∙◌}
use mathlib.Core.Bool.{true, false, cond, ◌&&◌}
use mathlib.Core.List.{List, [], ◌∷◌, ◌++◌}
use mathlib.Core.Logic.{⊎_elim}
use Prim.Native.Nat.{ℕ, zero, suc, ◌+◌, ◌-◌, ◌*◌, ◌/◌, ◌≤◌, ◌<◌}
use native.Mathlib.Omega.{arith}
use lib.Dec.{eqb}
use lib.ListN.{length, get_or, drop, set, replicate, length-set, length-replicate, get_or-eq_default, get_or-replicate}
use lib.Seq.{get_or-set_same, get_or-set_other}
use borrow.Author.Tests.{eq-eqb, ne_eqb, eqb-true, eqb-false}
use Rattle.facts.proofs.Tests.{and_both}
use Rattle.facts.proofs.Numbers.{before-or-from}
use Rattle.gates.specs.Graph.{inputs, graph_ok}
use Rattle.gates.specs.Grow.{literal_of}
use Rattle.refutation.specs.Refutation.{and_false, conflict, whole, listed, after, among, all_below, step_ok, refused_from, refused_step}
use Rattle.refutation.proofs.Cases.{split}
use Rattle.refutation_hints.specs.Memory.{AtMost, Before, Ready, ClauseOk, skipped, after_step, clauses_to}
use Rattle.refutation_hints.proofs.Lists.{length_at, after-at, whole-fits}
use Rattle.refutation_hints.proofs.Steps.{clauses-length, clauses-more}

-- A step has two words or more: there is a place for each, and `refused_from` does not run out of steps.
pub record Going (g : List ℕ) (count l : ℕ) (ws starts : List ℕ) (k at : ℕ) (marks : List ℕ) : Type 0 where
  pub ready : Ready g count l ws starts k marks
  pub before : Before k marks
  pub some : 0 < k
  pub far : 2 * k ≤ at + 2
  pub within : at ≤ length ws
  pub room : length ws / 2 < length starts
  pub rest : refused_from (length ws + 1 - k) g count (clauses_to ws starts l k) (drop at ws) ≡ refused_step g count l ws

-- no mark is of a step
pub no-marks : (n : ℕ) (marks : List ℕ) → marks ≡ replicate n 0 → Before 1 marks
no-marks n marks e x =
    ⊎_elim (λ (b : x < n). let z = get_or-replicate {A = ℕ} n x 0 0 b in rw e (omega (arith, z)))
    (λ (b : n ≤ x). let z = get_or-eq_default (replicate {A = ℕ} n 0) 0 {n = x} (rw length-replicate b) in rw e (omega (arith, z))) (before-or-from x n)

pub going-first :
    (g : List ℕ) (count l : ℕ) (ws starts marks : List ℕ) → graph_ok g count ≡ true → l / 2 < inputs + count → length marks ≡ literal_of count
    → length ws / 2 < length starts → Before 1 marks → Going g count l ws starts 1 0 marks
unfolding refused_step clauses_to
going-first g count l ws starts marks good literal long room before = record {
  ready = record { good = good; literal = literal; room = long; places = omega arith; placed = λ j a b. absurd (omega arith) };
  before = before;
  some = omega arith;
  far = omega arith;
  within = omega arith;
  room = room;
  rest = let e : length ws + 1 - 1 ≡ length ws = omega arith in ap (λ (f : ℕ). refused_from f g count ((l ∷ []) ∷ []) ws) e;
}

refused-here :
    (f : ℕ) (g : List ℕ) (count : ℕ) (steps : List (List ℕ)) (ws : List ℕ) → step_ok g count steps ws ≡ false → refused_from f g count steps ws ≡ length steps
unfolding refused_from
refused-here zero g count steps ws e = refl
refused-here (suc f) g count steps ws e = rw e refl

accepted-here :
    (f : ℕ) (g : List ℕ) (count : ℕ) (steps : List (List ℕ)) (ws : List ℕ) → step_ok g count steps ws ≡ true
    → refused_from (suc f) g count steps ws ≡ cond (eqb (get_or ws 0 0) 0) 0 (refused_from f g count (steps ++ (listed ws ∷ [])) (after (after ws)))
unfolding refused_from
accepted-here f g count steps ws e = rw e refl

-- an accepted step: its clause is in the words and of the graph, and it ends in the words
step-lies :
    (g : List ℕ) (count : ℕ) (steps : List (List ℕ)) (ws : List ℕ) (at : ℕ) → step_ok g count steps (drop at ws) ≡ true
    → ClauseOk count ws at × (after_step ws at ≤ length ws)
step-lies g count steps ws at e =
    let here = drop at ws in
    let meets = conflict g count steps (and_false (among (listed here)) 0) (listed (after here)) in
    let p = and_both (whole here && whole (after here) && all_below (literal_of count) (listed here)) meets e in
    let q = and_both (whole here && whole (after here)) (all_below (literal_of count) (listed here)) p.0 in
    let r = and_both (whole here) (whole (after here)) q.0 in
    ((r.0, q.1), whole-fits ws (skipped ws at) (ap whole (sym (after-at ws at)) ∙ r.1))

module _ {g : List ℕ} {count l : ℕ} {ws starts : List ℕ} {k at : ℕ} {marks : List ℕ} (going : Going g count l ws starts k at marks) where
  pub going-refused : step_ok g count (clauses_to ws starts l k) (drop at ws) ≡ false → k ≡ refused_step g count l ws
  going-refused e =
      sym (clauses-length ws starts l k) ∙ sym (refused-here (length ws + 1 - k) g count (clauses_to ws starts l k) (drop at ws) e) ∙ going.rest

  module _ (ok : step_ok g count (clauses_to ws starts l k) (drop at ws) ≡ true) where
    pub step-ends : after_step ws at ≤ length ws
    step-ends = (step-lies g count (clauses_to ws starts l k) ws at ok).1

    pub place-left : k < length starts
    place-left = omega (arith, step-ends, going.far, going.room)

    one-step :
        cond (eqb (get_or ws at 0) 0) 0
        (refused_from (length ws - k) g count (clauses_to ws starts l k ++ (listed (drop at ws) ∷ [])) (after (after (drop at ws))))
        ≡ refused_step g count l ws
    one-step =
        let steps = clauses_to ws starts l k in
        let f : suc (length ws - k) ≡ length ws + 1 - k = omega (arith, step-ends, going.far) in
        let rest = refused_from (length ws - k) g count (steps ++ (listed (drop at ws) ∷ [])) (after (after (drop at ws))) in
        ap (λ (n : ℕ). cond (eqb n 0) 0 rest) (sym (length_at ws at)) ∙ sym (accepted-here (length ws - k) g count steps (drop at ws) ok)
        ∙ ap (λ (n : ℕ). refused_from n g count steps (drop at ws)) f
        ∙ going.rest

    pub going_done : get_or ws at 0 ≡ 0 → 0 ≡ refused_step g count l ws
    going_done z = rw (eq-eqb (get_or ws at 0) 0 z) at one-step

    pub going_on :
        (new : List ℕ) → (get_or ws at 0 ≡ 0 → ⊥) → length new ≡ length marks → AtMost k new
        → Going g count l ws (set starts k at) (k + 1) (after_step ws at) new
    going_on new n long most = record {
      ready = record {
        good = going.ready.good;
        literal = going.ready.literal;
        room = long ∙ going.ready.room;
        places = rw length-set (omega (arith, place-left));
        placed = λ j a b.
            ⊎_elim
            (λ e.
            rw (ap (λ (m : ℕ). get_or (set starts k at) m 0) (eqb-true j k e) ∙ get_or-set_same starts k at 0 place-left)
            (step-lies g count (clauses_to ws starts l k) ws at ok).0)
            (λ e.
            let d = eqb-false j k e in
            rw (get_or-set_other starts k j at 0 d) (going.ready.placed j a (omega (arith, d, b)))) (split (eqb j k));
      };
      before = λ x. omega (arith, most x);
      some = omega arith;
      far = omega (arith, going.far);
      within = step-ends;
      room = rw length-set going.room;
      rest =
          let f : length ws + 1 - (k + 1) ≡ length ws - k = omega arith in
          let here : drop (after_step ws at) ws ≡ after (after (drop at ws)) = sym (ap after (after-at ws at) ∙ after-at ws (skipped ws at)) in
          (λ i. refused_from (f i) g count (clauses-more ws starts l k at going.some place-left i) (here i))
          ∙ (rw (ne_eqb (get_or ws at 0) 0 n) at one-step);
    }
