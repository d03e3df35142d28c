-- What asking for a node's text answers (document 01, "The numbers"): 1, 5, 9, the first in order.
use Rattle.std.specs.Prelude.{List, ◌≡◌, ℕ, leb, length}
use Rattle.facts.specs.Refuse.{by_number, list_by, unless}
use Rattle.pool.specs.Rules.{node_number}
use Rattle.text_parts.specs.Text.{text}

-- 9 for a text longer than the buffer
abbrev pub text_number : List ℕ → (count n room : ℕ) → ℕ
text_number ws count n room = node_number ws count n (unless (leb (length (text ws n)) room) 9 0)

-- the text of node n was asked for, with the buffer old
pub record Answered (ws : List ℕ) (count n : ℕ) (old : List ℕ) (number len : ℕ) (new : List ℕ) : Type 0 where
  pub number_is : number ≡ text_number ws count n (length old)
  pub length_is : len ≡ by_number (text_number ws count n (length old)) (length (text ws n))
  pub buffer_is : new ≡ list_by (text_number ws count n (length old)) (text ws n) old
