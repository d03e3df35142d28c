-- Two pools in one graph, the literals of the second after those of the first; and whether bits of two words of 128 literals differ.
use Rattle.std.specs.Prelude.{Bool, not, List, ◌≡◌, ℕ, ◌+◌, ◌*◌, ◌/◌, ◌%◌, ◌^◌, ◌≤◌, eqb, length, drop}
use Rattle.pool.specs.Rules.{Valid}
use Rattle.gates.specs.Grow.{Grown, Room}
use Rattle.gates_words.specs.Number.{number}
use Rattle.gates_pool.specs.Bits.{Held}
use Rattle.gates_pool.specs.Gates.{gates_in}
use Rattle.gates_question.specs.Question.{gates_of_two, places_of_two}

-- a pool with so many valid nodes
pub record Pool (ws : List ℕ) (count : ℕ) : Type 0 where
  pub valid : Valid ws count
  pub words : 4 * count ≤ length ws
  pub few : count ≤ 65535

-- what both are built from, and what there is then
pub record Ready (ws : List ℕ) (count : ℕ) (ws' : List ℕ) (count' : ℕ) (g bits : List ℕ) : Type 0 where
  pub first : Pool ws count
  pub second : Pool ws' count'
  pub room : Room g 0 (gates_of_two ws count ws' count')
  pub places : places_of_two count count' ≤ length bits

pub record Both (ws : List ℕ) (count : ℕ) (ws' : List ℕ) (count' : ℕ) (g bits g' : List ℕ) (k : ℕ) (bits' : List ℕ) : Type 0 where
  pub grown : Grown g 0 g' k
  pub most : k ≤ gates_in ws count + gates_in ws' count'
  pub size : length bits' ≡ length bits
  pub first : Held ws count g' k bits'
  pub second : Held ws' count' g' k (drop (129 * count) bits')

-- whether w bits from bit lo on differ, of the words at places a and b
abbrev pub words_differ : (ℕ → ℕ) → (g bits : List ℕ) → (a b lo w : ℕ) → Bool
words_differ start g bits a b lo w =
    not (eqb (number start g bits a 128 / 2 ^ lo % 2 ^ w) (number start g bits b 128 / 2 ^ lo % 2 ^ w))
