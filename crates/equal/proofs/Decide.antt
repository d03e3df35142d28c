-- The answer on a refutation of a question's literal, and what 0 says of the bits. Assumes nothing.
use mathlib.Core.Path.{◌≡◌, refl, sym, ap, ◌∙◌}
use mathlib.Core.Bool.{Bool, true, false, cond, not, ◌&&◌, ◌||◌, false≢true}
use mathlib.Core.List.{List}
use Prim.Native.Nat.{ℕ, ◌+◌, ◌/◌}
use native.Mathlib.Omega.{arith}
use lib.Dec.{eqb, leb, ltb}
use lib.ListN.{length}
use borrow.Author.Tests.{eqb-true, lt-ltb}
use Rattle.facts.specs.Refuse.{unless}
use Rattle.facts.specs.declared.Refusal.{Refusal}
use Rattle.facts.specs.declared.Refusal.TheVariants as refusal
use Rattle.facts.specs.Answer.{code}
use Rattle.facts.proofs.Tests.{and_both}
use Rattle.gates.specs.Graph.{inputs, truth}
use Rattle.gates.specs.Grow.{literal_of}
use Rattle.gates.proofs.Truth.{false-truth}
use Rattle.gates_question.specs.Question.{Asks, Asked}
use Rattle.gates_question.specs.Question as question
use Rattle.refutation.specs.Refutation.{refused_step}
use Rattle.refutation_check.specs.Answer.{Checked}
use Rattle.refutation_check.specs.Answer as check
use Rattle.refutation_check.proofs.Answers.{accepted-is-false}
use Rattle.equal.specs.Equal.{EqualBits, Decided, Answered}

-- the answer without the rule for an empty refutation is the answer, unless it is 14 and the rule applies
same_answer : (x z s : Bool) {k : ℕ} → k ≡ unless x 6 (unless s 14 0) → (z ≡ true → k ≡ 14 → ⊥) → k ≡ unless x 6 (unless (z || s) 14 0)
same_answer x false s e h = e
same_answer false true s e h = e
same_answer true true true e h = e
same_answer true true false e h = absurd (h refl e)

-- and if it does, it is 0
by-rule : (x z s : Bool) → 14 ≡ unless x 6 (unless s 14 0) → z ≡ true → 0 ≡ unless x 6 (unless (z || s) 14 0)
by-rule true true s e h = refl
by-rule false z s e h = absurd (omega (arith, e))
by-rule true false s e h = absurd (false≢true h)

not-false : (b : Bool) → not b ≡ false → b ≡ true
not-false true e = refl
not-false false e = absurd (false≢true (sym e))

module _ {ws ws' g : List ℕ} {a b hi lo count l : ℕ} (asks : Asks ws a ws' b hi lo g count l) where
  -- a literal that is never true
  pub equal-bits : ((start : ℕ → ℕ) → truth start g l ≡ false) → EqualBits ws a ws' b hi lo
  equal-bits never start small = eqb-true _ _ (not-false _ (sym (asks.is start small) ∙ never start))

  module _ {refutation : List ℕ} {marks starts : ℕ} {k : Checked} (c : check.Answered g count l refutation marks starts k) where
    abbrev memory : Bool
    memory = leb (literal_of count) marks && ltb (length refutation / 2) starts

    abbrev empty : Bool
    empty = eqb l 0 && eqb (length refutation) 0

    abbrev good : Bool
    good = eqb (refused_step g count l refutation) 0

    number_of : k.number ≡ unless memory 6 (unless good 14 0)
    number_of = c.number_is ∙ rw (asks.good, lt-ltb (l / 2) (inputs + count) (omega (arith, asks.under)))

    step_of : k.step ≡ cond (eqb k.number 14) (refused_step g count l refutation) 0
    step_of = c.step_is ∙ ap (λ (n : ℕ). cond (eqb n 14) (refused_step g count l refutation) 0) (sym c.number_is)

    pub decided : (empty ≡ true → k.number ≡ 14 → ⊥) → Decided g count l refutation marks starts k
    decided h =
        record {
          number_is = same_answer memory empty good number_of h;
          step_is = step_of;
        }

    pub decided-empty : empty ≡ true → k.number ≡ 14 → Decided g count l refutation marks starts (record { number = 0; step = 0 })
    decided-empty h e =
        record {
          number_is = by-rule memory empty good (sym e ∙ number_of) h;
          step_is = refl;
        }

    pub equal-checked : k.number ≡ 0 → EqualBits ws a ws' b hi lo
    equal-checked e = equal-bits (accepted-is-false g count l refutation marks starts k c e)

    pub equal-empty : empty ≡ true → EqualBits ws a ws' b hi lo
    equal-empty h =
        let z : l ≡ 0 = eqb-true l 0 (and_both (eqb l 0) (eqb (length refutation) 0) h).0 in
        equal-bits (λ start. ap (truth start g) z ∙ false-truth start g)

-- ---- the answers

module _ {ws ws' : List ℕ} {n a m b hi lo : ℕ} {g g' table table' bits bits' : List ℕ} {q : Asked}
    (d : question.Answered ws n a ws' m b hi lo g g' table table' bits bits' q) (refutation : List ℕ) (marks starts : ℕ) where
  abbrev Answers : Checked → Type 0
  Answers r = Answered ws n a ws' m b hi lo refutation g g' table table' bits bits' marks starts r

  pub not-asked : (q.number ≡ 0 → ⊥) → Answers (record { number = q.number; step = 0 })
  not-asked h =
      record {
        asked = q;
        question = d;
        refused = λ z. (refl, refl);
        decided = λ e. absurd (h e);
        equal = λ e. absurd (h e);
      }

  module _ (zero_is : q.number ≡ 0) {k : Checked} (c : check.Answered g' q.count q.literal refutation marks starts k) where
    pub as-checked : ((eqb q.literal 0 && eqb (length refutation) 0) ≡ true → k.number ≡ 14 → ⊥) → Answers k
    as-checked h =
        let asks = d.done zero_is in
        record {
          asked = q;
          question = d;
          refused = λ z. absurd (z zero_is);
          decided = λ e. decided asks c h;
          equal = equal-checked asks c;
        }

    pub as-empty : (eqb q.literal 0 && eqb (length refutation) 0) ≡ true → k.number ≡ 14 → Answers (record { number = 0; step = 0 })
    as-empty h e =
        let asks = d.done zero_is in
        record {
          asked = q;
          question = d;
          refused = λ z. absurd (z zero_is);
          decided = λ z. decided-empty asks c h e;
          equal = λ z. equal-empty asks c h;
        }

-- 14 is the number of a refused step only
pub is-step : (r : Refusal) → code r ≡ 14 → r ≡ refusal.Step
is-step refusal.Pool e = absurd (omega (arith, e))
is-step refusal.Operation e = absurd (omega (arith, e))
is-step refusal.Form e = absurd (omega (arith, e))
is-step refusal.Immediate e = absurd (omega (arith, e))
is-step refusal.Node e = absurd (omega (arith, e))
is-step refusal.Room e = absurd (omega (arith, e))
is-step refusal.Register e = absurd (omega (arith, e))
is-step refusal.Records e = absurd (omega (arith, e))
is-step refusal.Buffer e = absurd (omega (arith, e))
is-step refusal.Line e = absurd (omega (arith, e))
is-step refusal.Visits e = absurd (omega (arith, e))
is-step refusal.Word e = absurd (omega (arith, e))
is-step refusal.Bits e = absurd (omega (arith, e))
is-step refusal.Step e = refl
