-- What asking for a script answers (document 02, S-1): 1, 5, 9, the first in order.
use Rattle.std.specs.Prelude.{List, ◌≡◌, ℕ, leb, length}
use Rattle.facts.specs.Refuse.{by_number, list_by, unless}
use Rattle.script_meaning.specs.Script.{script_of}
use Rattle.script_length.specs.Answer.{script_number}

-- 9 for a script longer than the buffer
abbrev pub write_number : List ℕ → (count a b room : ℕ) → ℕ
write_number ws count a b room = script_number ws count a b (unless (leb (length (script_of ws count a b)) room) 9 0)

-- the script that asks whether nodes a and b differ was asked for, with the buffer old: the script and the old bytes after it, or, with
-- a refusal, the old bytes
pub record Answered (ws : List ℕ) (count a b : ℕ) (old : List ℕ) (number len : ℕ) (new : List ℕ) : Type 0 where
  pub number_is : number ≡ write_number ws count a b (length old)
  pub length_is : len ≡ by_number (write_number ws count a b (length old)) (length (script_of ws count a b))
  pub buffer_is : new ≡ list_by (write_number ws count a b (length old)) (script_of ws count a b) old
