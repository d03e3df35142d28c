-- What asking for a term's value answers (document 02, S-6): 1, 5, 11, the first in order.
use Rattle.std.specs.Prelude.{List, ◌≡◌, ℕ, ◌≤◌, leb, Result}
use Rattle.std.specs.declared.result.Result.TheVariants.{Ok, Err}
use Rattle.facts.specs.declared.Refusal.{Refusal}
use Rattle.facts.specs.Answer.{code}
use Rattle.facts.specs.Refuse.{by_number, unless}
use Rattle.pool.specs.Rules.{node_number}
use Rattle.wide.specs.Number.{words}
use Rattle.evaluate.specs.declared.TermValue.{TermValue}
use Rattle.evaluate.specs.Visits.{value_at, visits_at}

-- what C is given: a number of README's table, the value in three words, the lowest first, and the visits made
pub record Evaluated : Type 0 where
  pub number : ℕ
  pub low : ℕ
  pub high : ℕ
  pub top : ℕ
  pub visits : ℕ

-- 11 if the definition's visits are more than the allowance
abbrev pub evaluate_number : List ℕ → List ℕ → (count n allowance : ℕ) → ℕ
evaluate_number ws regs count n allowance = node_number ws count n (unless (leb (visits_at ws regs n) allowance) 11 0)

abbrev pub no_value : ℕ → Evaluated
no_value number = record { number = number; low = 0; high = 0; top = 0; visits = 0 }

abbrev pub evaluated : Result TermValue Refusal → Evaluated
evaluated (Ok v) = record { number = 0; low = v.value.low; high = v.value.high; top = v.value.top; visits = v.visits }
evaluated (Err r) = no_value (code r)

abbrev pub found : Evaluated → ℕ
found r = words r.low r.high r.top

-- count nodes of the words ws are in use, n is the node, the words regs hold the start
pub record Answered (ws regs : List ℕ) (count n allowance : ℕ) (r : Evaluated) : Type 0 where
  pub number_is : r.number ≡ evaluate_number ws regs count n allowance
  pub value_is : found r ≡ by_number (evaluate_number ws regs count n allowance) (value_at ws regs n)
  pub visits_is : r.visits ≡ by_number (evaluate_number ws regs count n allowance) (visits_at ws regs n)

-- a larger allowance never alters a value once given, nor the visits made
abbrev pub MoreVisits : Type 0
MoreVisits =
    (ws regs : List ℕ) (count n a b : ℕ) (r s : Evaluated) → a ≤ b → Answered ws regs count n a r → Answered ws regs count n b s → r.number ≡ 0
    → (s.number ≡ 0) × (found s ≡ found r) × (s.visits ≡ r.visits)

-- the visits made are never more than the allowance
abbrev pub WithinAllowance : Type 0
WithinAllowance = (ws regs : List ℕ) (count n allowance : ℕ) (r : Evaluated) → Answered ws regs count n allowance r → r.visits ≤ allowance
