-- The answer of a refutation's check: its number, and with 14 the number of the first refused step, else 0.
use Rattle.std.specs.Prelude.{false, cond, List, ◌≡◌, ℕ, eqb, Result}
use Rattle.facts.specs.declared.RefusedAt.{RefusedAt}
use Rattle.facts.specs.Answer.{number_at, position_at}
use Rattle.gates.specs.Graph.{truth}
use Rattle.refutation.specs.Refutation.{refused_step, refutation_number}

-- 0: accepted. 1: an operand does not precede its gate. 5: the literal is not of the graph. 6: the lent memory is too short. 14: step `step` is refused.
pub record Checked : Type 0 where
  pub number : ℕ
  pub step : ℕ

-- the two numbers of an answer
abbrev pub checked : {A : Type 0} → Result A RefusedAt → Checked
checked a = record { number = number_at a; step = position_at a }

-- marks and starts are the lengths of the lent memory
pub record Answered (g : List ℕ) (count l : ℕ) (ws : List ℕ) (marks starts : ℕ) (r : Checked) : Type 0 where
  pub number_is : r.number ≡ refutation_number g count l ws marks starts
  pub step_is : r.step ≡ cond (eqb (refutation_number g count l ws marks starts) 14) (refused_step g count l ws) 0

-- if the check answers 0, the literal is false at every start
abbrev pub AcceptedIsFalse : Type 0
AcceptedIsFalse =
    (g : List ℕ) (count l : ℕ) (ws : List ℕ) (marks starts : ℕ) (r : Checked) → Answered g count l ws marks starts r → r.number ≡ 0 → (start : ℕ → ℕ)
    → truth start g l ≡ false
