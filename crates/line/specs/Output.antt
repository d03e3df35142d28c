-- What the line program writes for an input, and the rooms that it needs.
use Rattle.std.specs.Prelude.{cond, List, [], ◌∷◌, ◌++◌, ℕ, ◌+◌, ◌≤◌, eqb, length}
use Rattle.neon.specs.Refusal.{reserve}
use Rattle.pool.specs.Node.{places}
use Rattle.line_output.specs.Answer.{answer_room}
use Rattle.line.specs.Line.{answer}

-- the answer to a last line that no newline ends: none where it is empty
abbrev pub last_answer : (places : ℕ) → List ℕ → List ℕ
last_answer places [] = []
last_answer places (b ∷ line) = answer places (b ∷ line)

-- the answers to the lines of an input, of whose first line `line` came before
unfoldable pub output_from : (places : ℕ) → (line input : List ℕ) → List ℕ
output_from places line [] = last_answer places line
output_from places line (b ∷ input) =
    cond (eqb b 10) (answer places line ++ output_from places [] input) (output_from places (line ++ (b ∷ [])) input)

abbrev pub output : (places : ℕ) → List ℕ → List ℕ
output places input = output_from places [] input

-- of a line one byte more than a line in columns has, of the output an answer, of the pool a block of one
pub record Rooms (pool held out : List ℕ) : Type 0 where
  pub held_room : 25 ≤ length held
  pub out_room : answer_room ≤ length out
  pub pool_room : 32 + reserve ≤ places pool
