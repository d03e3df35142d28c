-- Refusals in order: the first test that fails gives its number.
use Rattle.std.specs.Prelude.{Bool, cond, List, ◌++◌, ℕ, zero, suc, length, drop}

-- k if the test fails, else what follows
abbrev pub unless : Bool → ℕ → ℕ → ℕ
unless holds k rest = cond holds rest k

-- what comes back beside a number: 0 with a refusal
abbrev pub by_number : (number x : ℕ) → ℕ
by_number zero x = x
by_number (suc k) x = 0

-- what was written and the old after it; a refusal writes nothing
abbrev pub list_by : (number : ℕ) (new old : List ℕ) → List ℕ
list_by zero new old = new ++ drop (length new) old
list_by (suc k) new old = old
