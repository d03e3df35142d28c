-- Marks: one more, none of a later step; and a hint of a conflict, with the mark that it asks for. Assumes nothing.
use mathlib.Core.Path.{◌≡◌, refl, sym, ap, ◌∙◌}
use mathlib.Core.Bool.{Bool, true, false, cond, ◌||◌}
use mathlib.Core.List.{List}
use mathlib.Core.Logic.{⊎_elim}
use Prim.Native.Nat.{ℕ, ◌+◌, ◌-◌, ◌≤◌, ◌<◌}
use native.Mathlib.Numerals.{add-one}
use native.Mathlib.Omega.{arith}
use lib.Dec.{eqb}
use lib.ListN.{length, get_or, set, drop}
use lib.Seq.{get_or-set_same, get_or-set_other}
use borrow.Author.Tests.{eqb-true, eqb-false, eq-eqb, ne_eqb}
use Rattle.std.proofs.Common.{drop-cons}
use Rattle.std.proofs.lemmas.List.{at_drop_all}
use Rattle.gates.specs.Grow.{negated}
use Rattle.refutation.specs.Refutation.{cited, and_false, conflict}
use Rattle.refutation.proofs.Cases.{split}
use Rattle.refutation_hints.specs.Memory.{marked, AtMost, Before, Ready}

pub marked-set : (marks : List ℕ) (l k x : ℕ) → l < length marks → marked (set marks l k) k x ≡ (eqb x l || marked marks k x)
marked-set marks l k x h =
    ⊎_elim
    (λ e.
    ap (λ (n : ℕ). eqb (get_or (set marks l k) n 0) k) (eqb-true x l e) ∙ ap (λ (n : ℕ). eqb n k) (get_or-set_same marks l k 0 h) ∙ eq-eqb k k refl
    ∙ sym (ap (λ (b : Bool). b || marked marks k x) e))
    (λ e. ap (λ (n : ℕ). eqb n k) (get_or-set_other marks l x k 0 (eqb-false x l e)) ∙ sym (ap (λ (b : Bool). b || marked marks k x) e)) (split (eqb x l))

pub marked_more : (marks : List ℕ) (l k : ℕ) → l < length marks → marked (set marks l k) k ≡ and_false (marked marks k) l
marked_more marks l k h = λ i x. marked-set marks l k x h i

pub at-most-set : (marks : List ℕ) (l k : ℕ) → l < length marks → AtMost k marks → AtMost k (set marks l k)
at-most-set marks l k h m x =
    ⊎_elim (λ e. rw (eqb-true x l e, get_or-set_same marks l k 0 h) (omega arith))
    (λ e. rw (get_or-set_other marks l x k 0 (eqb-false x l e)) (m x)) (split (eqb x l))

-- no literal is marked by a step that has yet to come
pub none-marked : (marks : List ℕ) (k x : ℕ) → Before k marks → marked marks k x ≡ false
none-marked marks k x m = ne_eqb (get_or marks x 0) k (λ e. omega (arith, m x, e))

pub or_swap : (a b m : Bool) → (b || (a || m)) ≡ ((a || b) || m)
or_swap true true m = refl
or_swap true false m = refl
or_swap false b m = refl

pub ready-again :
    {g : List ℕ} {count l : ℕ} {ws starts : List ℕ} {k : ℕ} {marks new : List ℕ} → Ready g count l ws starts k marks → length new ≡ length marks
    → Ready g count l ws starts k new
ready-again r e = record { good = r.good; literal = r.literal; room = e ∙ r.room; places = r.places; placed = r.placed }

-- one more hint, of whose clause `left` is left
pub conflict-one :
    (g : List ℕ) (count : ℕ) (steps : List (List ℕ)) (isFalse : ℕ → Bool) (hints : List ℕ) (i left : ℕ) → i < length hints
    → left ≡ cited g count steps isFalse (get_or hints i 0)
    → conflict g count steps isFalse (drop i hints)
    ≡ cond (eqb left 0) true (cond (eqb left 1) false (conflict g count steps (and_false isFalse (negated (left - 2))) (drop (i + 1) hints)))
unfolding conflict
conflict-one g count steps isFalse hints i left h c = rw (add-one i, drop-cons hints i 0 h, c) refl

pub conflict-end :
    (g : List ℕ) (count : ℕ) (steps : List (List ℕ)) (isFalse : ℕ → Bool) (hints : List ℕ) (i : ℕ) → length hints ≤ i
    → conflict g count steps isFalse (drop i hints) ≡ false
unfolding conflict
conflict-end g count steps isFalse hints i h = at_drop_all (conflict g count steps isFalse) hints i h
