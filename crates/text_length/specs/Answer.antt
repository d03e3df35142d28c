-- What asking for the length of a node's text answers (document 01, "The numbers"): 1, 5, the first in order.
use Rattle.std.specs.Prelude.{List, ◌≡◌, ℕ, ◌+◌, min, length}
use Rattle.facts.specs.Refuse.{by_number}
use Rattle.pool.specs.Rules.{node_number}
use Rattle.text_parts.specs.Text.{text}

-- the length was asked for, up to a ceiling: one more than the ceiling stands for all that is longer
pub record Measured (ws : List ℕ) (count n ceiling : ℕ) (number len : ℕ) : Type 0 where
  pub number_is : number ≡ node_number ws count n 0
  pub length_is : len ≡ by_number (node_number ws count n 0) (min (length (text ws n)) (ceiling + 1))
