-- A step at a place of the words: its clause and its hints are parts of the words. Assumes nothing.
use mathlib.Core.Path.{◌≡◌, refl, sym, ap, ◌∙◌}
use mathlib.Core.Bool.{Bool, true, false, cond, ◌&&◌, ◌||◌}
use mathlib.Core.List.{List}
use Prim.Native.Nat.{ℕ, ◌+◌, ◌<◌}
use Rattle.std.specs.Prelude.{Some, None}
use lib.ListN.{length, drop, set}
use lib.Seq.{slice}
use Rattle.gates.specs.Grow.{literal_of}
use Rattle.refutation.specs.Refutation.{and_false, conflict, whole, listed, after, among, all_below, step_ok}
use Rattle.refutation_hints.specs.Memory.{marked, Before, Marking, skipped}
use Rattle.refutation_hints.proofs.Lists.{listed_at, after-at}
use Rattle.refutation_hints.proofs.Marks.{none-marked, marked_more}

-- what an answer that gives a place says of the test
pub some-there : (b : Bool) (x r : ℕ) → Some r ≡ cond b (Some x) None → (b ≡ true) × (r ≡ x)
some-there true x r e = (refl, cc)
some-there false x r e = absurd cc

pub none-there : (b : Bool) (x : ℕ) → None ≡ cond b (Some x) None → b ≡ false
none-there true x e = absurd cc
none-there false x e = refl

-- the place h of the hints and the place e after them
module _ (g : List ℕ) (count : ℕ) (steps : List (List ℕ)) (ws : List ℕ) (at h e : ℕ) (p : h ≡ skipped ws at) (q : e ≡ skipped ws h) where
  pub step-parts :
      step_ok g count steps (drop at ws)
      ≡ (whole (drop at ws) && whole (drop h ws) && all_below (literal_of count) (slice (at + 1) h ws)
      && conflict g count steps (and_false (among (slice (at + 1) h ws)) 0) (slice (h + 1) e ws))
  step-parts =
      let hints : after (drop at ws) ≡ drop h ws = after-at ws at ∙ ap (λ (n : ℕ). drop n ws) (sym p) in
      let clause : listed (drop at ws) ≡ slice (at + 1) h ws = listed_at ws at ∙ ap (λ (n : ℕ). slice (at + 1) n ws) (sym p) in
      let cites : listed (after (drop at ws)) ≡ slice (h + 1) e ws = ap listed hints ∙ listed_at ws h ∙ ap (λ (n : ℕ). slice (h + 1) n ws) (sym q) in
      λ i.
      whole (drop at ws) && whole (hints i) && all_below (literal_of count) (clause i) && conflict g count steps (and_false (among (clause i)) 0) (cites i)

  -- both lists are in the words
  module _ (first : whole (drop at ws) ≡ true) (second : whole (drop h ws) ≡ true) where
    pub not_low : all_below (literal_of count) (slice (at + 1) h ws) ≡ false → step_ok g count steps (drop at ws) ≡ false
    not_low b = step-parts ∙ rw (first, second, b) refl

    pub low :
        all_below (literal_of count) (slice (at + 1) h ws) ≡ true
        → step_ok g count steps (drop at ws) ≡ conflict g count steps (and_false (among (slice (at + 1) h ws)) 0) (slice (h + 1) e ws)
    low b = step-parts ∙ rw (first, second, b) refl

-- once the clause is marked, the marks are its literals
pub marked-clause :
    (marks new : List ℕ) (k : ℕ) (clause : List ℕ) → Before k marks → ((x : ℕ) → marked new k x ≡ (among clause x || marked marks k x))
    → marked new k ≡ among clause
marked-clause marks new k clause b m = λ i x. (m x ∙ ap (λ (t : Bool). among clause x || t) (none-marked marks k x b) ∙ or-false (among clause x)) i
  where
    or-false : (b : Bool) → (b || false) ≡ b
    or-false true = refl
    or-false false = refl

-- so the answer of `conflict`, with literal 0 marked too, is that of the step
pub answer-is :
    (g : List ℕ) (count : ℕ) (steps : List (List ℕ)) (ws : List ℕ) (at h e k : ℕ) (old new : List ℕ) (r : Bool)
    → Some h ≡ cond (whole (drop at ws)) (Some (skipped ws at)) None → Some e ≡ cond (whole (drop h ws)) (Some (skipped ws h)) None
    → Before k old → Marking (slice (at + 1) h ws) (literal_of count) old k true new → 0 < length new
    → r ≡ conflict g count steps (marked (set new 0 k) k) (slice (h + 1) e ws) → r ≡ step_ok g count steps (drop at ws)
answer-is g count steps ws at h e k old new r p q before marking some is =
    let f = some-there (whole (drop at ws)) (skipped ws at) h p in
    let t = some-there (whole (drop h ws)) (skipped ws h) e q in
    is
    ∙ ap (λ (x : ℕ → Bool). conflict g count steps x (slice (h + 1) e ws))
    (marked_more new 0 k some ∙ ap (λ (x : ℕ → Bool). and_false x 0) (marked-clause old new k (slice (at + 1) h ws) before (marking.marks_are refl)))
    ∙ sym (low g count steps ws at h e f.1 t.1 f.0 t.0 (sym marking.answer))
