-- Numbers in columns (document 01, "Text and program"): right-justified decimals in fields of 4 characters.
use Rattle.std.specs.Prelude.{Bool, cond, ◌&&◌, List, ◌++◌, ℕ, ◌+◌, ◌-◌, ◌*◌, ◌%◌, leb, eqb, length, get_or, take, drop, replicate}
use Rattle.facts.specs.Same.{same}
use Rattle.terms.specs.Display.{decimal}

-- x in 4 columns: its decimal, which has no leading zeros, and blanks to the left
unfoldable pub columns : ℕ → List ℕ
columns x = replicate (4 - length (decimal x)) 32 ++ decimal x

-- the character of a column but the last: `above` is the number that the digits up to this column make; a blank if it is 0
abbrev pub character_of : ℕ → ℕ
character_of above = cond (eqb above 0) 32 (48 + above % 10)

-- the digit that a character shows; 0 for a blank, and for what is no digit
abbrev pub shown : ℕ → ℕ
shown b = cond (leb 48 b && leb b 57) (b - 48) 0

-- the number that the 4 characters from `at` on show
unfoldable pub field_at : List ℕ → ℕ → ℕ
field_at line at =
    1000 * shown (get_or line at 0) + 100 * shown (get_or line (at + 1) 0) + 10 * shown (get_or line (at + 2) 0) + shown (get_or line (at + 3) 0)

-- those characters are that number in columns
unfoldable pub is_field : List ℕ → ℕ → Bool
is_field line at = same (take 4 (drop at line)) (columns (field_at line at))
