-- The bytes that answer a line (document 01, "Text and program").
use Rattle.std.specs.Prelude.{List, [], ◌∷◌, ◌++◌, ℕ, zero, suc, leb, length}
use Rattle.facts.specs.Refuse.{unless}
use Rattle.line_columns.specs.Columns.{columns}

-- the bytes of the text buffer, and the most bytes that a line's answer has: a number, a blank, a text, a newline
abbrev pub text_room : ℕ
text_room = 65536

abbrev pub answer_room : ℕ
answer_room = 65542

-- 9 for a text longer than its buffer
abbrev pub room_number : List ℕ → ℕ
room_number s = unless (leb (length s) text_room) 9 0

-- the number in 4 columns and, for 0, a blank and the text; then a newline
abbrev pub written : ℕ → List ℕ → List ℕ
written zero s = columns 0 ++ (32 ∷ (s ++ (10 ∷ [])))
written (suc k) s = columns (suc k) ++ (10 ∷ [])
