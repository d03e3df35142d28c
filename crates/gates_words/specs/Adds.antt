-- What the adder of words says.
use Rattle.std.specs.Prelude.{List, ◌≡◌, ℕ, ◌+◌, ◌*◌, ◌^◌}
use Rattle.terms.specs.Value.{bit}
use Rattle.gates.specs.Graph.{truth}
use Rattle.gates.specs.Grow.{Under, Builds}
use Rattle.gates_build.specs.declared.Made.{Made}
use Rattle.gates_build.specs.Adds.{differ, most}
use Rattle.gates_words.specs.Number.{number}
use Rattle.gates_words.specs.Words.{Put, Run}

-- one bit of a sum is put at a place, and r is its carry
abbrev pub PutsSum : (g : List ℕ) (k : ℕ) (bits g' : List ℕ) (r : Made) (bits' : List ℕ) (at x y z : ℕ) → Type 0
PutsSum g k bits g' r bits' at x y z =
    Put g k bits g' r.count bits' at 7 (λ start. differ (differ (truth start g x) (truth start g y)) (truth start g z))
    × Builds g k g' r.literal r.count 7 (λ start. most (truth start g x) (truth start g y) (truth start g z))

-- the low i bits of the sum of two words and a carry are written, and r is the carry out of them
pub record Adds (g : List ℕ) (k : ℕ) (bits g' : List ℕ) (r : Made) (bits' : List ℕ) (a b carry out i : ℕ) : Type 0 where
  pub run : Run g k bits g' r.count bits' out i (7 * i)
  pub carry_under : Under r.literal r.count
  pub is : (start : ℕ → ℕ) → number start g' bits' out i + bit (truth start g' r.literal) * 2 ^ i
      ≡ number start g bits a i + number start g bits b i + bit (truth start g carry)
