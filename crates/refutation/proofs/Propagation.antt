-- Unit propagation under an assignment: if the cited clauses are true and the literals set false are false, no clause becomes empty. Assumes nothing.
use mathlib.Core.Path.{◌≡◌, refl, sym, ap, ◌∙◌}
use mathlib.Core.Bool.{Bool, true, false, cond, not, ◌||◌, false≢true}
use mathlib.Core.List.{List, [], ◌∷◌}
use mathlib.Core.Logic.{⊎_elim}
use Prim.Native.Nat.{ℕ, ◌+◌, ◌-◌, ◌/◌, ◌%◌, ◌<◌}
use native.Mathlib.Omega.{arith}
use lib.Dec.{ltb, eqb}
use lib.ListN.{length, get_or}
use borrow.Author.Tests.{ltb-true, eqb-true, eqb-false}
use Rattle.gates.specs.Grow.{negated}
use Rattle.refutation.specs.Refutation.{gate_clause, kept, remains, cited, and_false, conflict, among}
use Rattle.refutation.proofs.Cases.{by_cond, or_cases}
use Rattle.refutation.proofs.Gate.{holds}

-- something is left, and a literal that is left alone is true
pub May : (ℕ → Bool) → ℕ → Type 0
May σ left = (left ≡ 0 → ⊥) × ((u : ℕ) → left ≡ u + 2 → σ u ≡ true)

-- the literals that are set false are false in the assignment
pub AllFalse : (ℕ → Bool) → (ℕ → Bool) → Type 0
AllFalse σ isFalse = (x : ℕ) → isFalse x ≡ true → σ x ≡ false

-- the clauses that may be cited are true
pub record Known (σ : ℕ → Bool) (g : List ℕ) (count : ℕ) (steps : List (List ℕ)) : Type 0 where
  pub constant : σ 0 ≡ false
  pub negations : (l : ℕ) → σ (negated l) ≡ not (σ l)
  pub gates : (k part : ℕ) → k < count → holds σ (gate_clause g k part) ≡ true
  pub done : (j : ℕ) → j < length steps → holds σ (get_or steps j []) ≡ true

differ : (σ : ℕ → Bool) → May σ 1
unfolding May
differ σ = (λ e. omega (arith, e), λ u e. absurd (omega (arith, e)))

kept_more : (σ : ℕ → Bool) (left l : ℕ) → May σ left → May σ (kept left l)
unfolding May
kept_more σ left l m =
    by_cond (May σ) (eqb left 0) (λ e. absurd (m.0 (eqb-true left 0 e))) (λ _. by_cond (May σ) (eqb left (l + 2)) (λ _. m) (λ _. differ σ))

kept-true : (σ : ℕ → Bool) (left l : ℕ) → σ l ≡ true → May σ (kept left l)
unfolding May
kept-true σ left l t =
    let alone : (n : ℕ) → n ≡ l + 2 → May σ n = λ n e. (λ z. omega (arith, e, z), λ u f. let s : u ≡ l = omega (arith, e, f) in rw s t) in
    by_cond (May σ) (eqb left 0) (λ _. alone (l + 2) refl)
    (λ _. by_cond (May σ) (eqb left (l + 2)) (λ e. alone left (eqb-true left (l + 2) e)) (λ _. differ σ))

remains-more : (σ isFalse : ℕ → Bool) (left : ℕ) (clause : List ℕ) → May σ left → May σ (remains isFalse left clause)
unfolding remains
remains-more σ isFalse left [] m = m
remains-more σ isFalse left (l ∷ clause) m =
    remains-more σ isFalse (cond (isFalse l) left (kept left l)) clause (by_cond (May σ) (isFalse l) (λ _. m) (λ _. kept_more σ left l m))

-- of a true clause something is left; if only one literal is left, it is true
pub remains-may : (σ isFalse : ℕ → Bool) → AllFalse σ isFalse → (left : ℕ) (clause : List ℕ) → holds σ clause ≡ true → May σ (remains isFalse left clause)
unfolding remains holds AllFalse
remains-may σ isFalse f left [] h = absurd (false≢true h)
remains-may σ isFalse f left (l ∷ clause) h =
    let next = cond (isFalse l) left (kept left l) in
    ⊎_elim (λ t. remains-more σ isFalse next clause
    (by_cond (May σ) (isFalse l) (λ e. absurd (false≢true (sym (f l e) ∙ t))) (λ _. kept-true σ left l t)))
    (λ r. remains-may σ isFalse f next clause r) (or_cases (σ l) (holds σ clause) h)

cited-may :
    {σ : ℕ → Bool} {g : List ℕ} {count : ℕ} {steps : List (List ℕ)} → Known σ g count steps → (isFalse : ℕ → Bool) → AllFalse σ isFalse → (v : ℕ)
    → May σ (cited g count steps isFalse v)
cited-may {σ} {g} {count} {steps} known isFalse f v =
    by_cond (May σ) (eqb (v % 4) 3)
    (λ _. by_cond (May σ) (ltb (v / 4) (length steps))
    (λ h. remains-may σ isFalse f 0 (get_or steps (v / 4) []) (known.done (v / 4) (ltb-true (v / 4) (length steps) h))) (λ _. differ σ))
    (λ _. by_cond (May σ) (ltb (v / 4) count)
    (λ h. remains-may σ isFalse f 0 (gate_clause g (v / 4) (v % 4)) (known.gates (v / 4) (v % 4) (ltb-true (v / 4) count h))) (λ _. differ σ))

pub one-more-false : (σ isFalse : ℕ → Bool) (l : ℕ) → AllFalse σ isFalse → σ l ≡ false → AllFalse σ (and_false isFalse l)
unfolding AllFalse
one-more-false σ isFalse l f h x e = ⊎_elim (λ q. rw (eqb-true x l q) h) (λ q. f x q) (or_cases (eqb x l) (isFalse x) e)

pub no-conflict :
    {σ : ℕ → Bool} {g : List ℕ} {count : ℕ} {steps : List (List ℕ)} → Known σ g count steps → (isFalse : ℕ → Bool) → AllFalse σ isFalse → (hints : List ℕ)
    → conflict g count steps isFalse hints ≡ true → ⊥
unfolding conflict May
no-conflict known isFalse f [] = λ e. false≢true e
no-conflict {σ} {g} {count} {steps} known isFalse f (v ∷ hints) =
    let left = cited g count steps isFalse v in
    let m = cited-may known isFalse f v in
    by_cond (λ (b : Bool). b ≡ true → ⊥) (eqb left 0) (λ e _. m.0 (eqb-true left 0 e))
    (λ z. by_cond (λ (b : Bool). b ≡ true → ⊥) (eqb left 1) (λ _ e. false≢true e)
    (λ o.
    let nz = eqb-false left 0 z in
    let no = eqb-false left 1 o in
    let two : left ≡ left - 2 + 2 = omega (arith, nz, no) in
    let false-now : σ (negated (left - 2)) ≡ false = known.negations (left - 2) ∙ ap not (m.1 (left - 2) two) in
    no-conflict known (and_false isFalse (negated (left - 2))) (one-more-false σ isFalse (negated (left - 2)) f false-now) hints))

-- the literals of a false clause are false
pub none_true : (σ : ℕ → Bool) (clause : List ℕ) → holds σ clause ≡ false → AllFalse σ (among clause)
unfolding AllFalse among holds
none_true σ [] h x e = absurd (false≢true e)
none_true σ (l ∷ clause) h x e =
    let p = neither (σ l) (holds σ clause) h in
    ⊎_elim (λ q. rw (eqb-true x l q) p.0) (λ q. none_true σ clause p.1 x q) (or_cases (eqb x l) (among clause x) e)
  where
    neither : (a b : Bool) → (a || b) ≡ false → (a ≡ false) × (b ≡ false)
    neither true b h = absurd (false≢true (sym h))
    neither false b h = (refl, h)
