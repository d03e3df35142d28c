-- The answer to a request: what was asked for, or why it is refused. A refusal has a number in README's table; 0 there is no refusal.
use Rattle.std.specs.Prelude.{ℕ}
use Rattle.std.specs.declared.result.Result.{Result}
use Rattle.std.specs.declared.result.Result.TheVariants.{Ok, Err}
use Rattle.facts.specs.declared.Refusal.{Refusal}
use Rattle.facts.specs.declared.Refusal.TheVariants as refusal
use Rattle.facts.specs.declared.RefusedAt.{RefusedAt}

abbrev pub code : Refusal → ℕ
code refusal.Pool = 1
code refusal.Operation = 2
code refusal.Form = 3
code refusal.Immediate = 4
code refusal.Node = 5
code refusal.Room = 6
code refusal.Register = 7
code refusal.Records = 8
code refusal.Buffer = 9
code refusal.Line = 10
code refusal.Visits = 11
code refusal.Word = 12
code refusal.Bits = 13
code refusal.Step = 14

-- the number of an answer: 0 if nothing is refused
abbrev pub number_of : {A : Type 0} → Result A Refusal → ℕ
number_of (Ok x) = 0
number_of (Err r) = code r

-- the number of a list's answer, and the position that is refused: 0 if nothing is
abbrev pub number_at : {A : Type 0} → Result A RefusedAt → ℕ
number_at (Ok x) = 0
number_at (Err e) = code e.refusal

abbrev pub position_at : {A : Type 0} → Result A RefusedAt → ℕ
position_at (Ok x) = 0
position_at (Err e) = e.position

-- what an answer gives, and what stands for it in a refusal
abbrev pub value_or : {A E : Type 0} → A → Result A E → A
value_or z (Ok x) = x
value_or z (Err e) = z
