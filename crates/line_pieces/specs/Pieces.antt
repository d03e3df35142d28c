-- A line that comes in pieces.
use Rattle.std.specs.Prelude.{Bool, true, false, cond, List, [], ◌∷◌, ◌++◌, ◌≡◌, ℕ, ◌+◌, ◌≤◌, min, max, eqb, length, take, get_or}
use Rattle.line_pieces.specs.declared.Gathered.{Gathered}

-- the bytes before the first newline, and whether there is one
unfoldable pub to_newline : List ℕ → List ℕ
to_newline [] = []
to_newline (b ∷ s) = cond (eqb b 10) [] (b ∷ to_newline s)

unfoldable pub ends : List ℕ → Bool
ends [] = false
ends (b ∷ s) = cond (eqb b 10) true (ends s)

abbrev pub one : Bool → ℕ
one true = 1
one false = 0

-- the bytes s, which stand at `from`, were taken up to their first newline, after the first len bytes of `held`: as many are held as have room, and the bytes
-- past them are as they were
pub record Gathers (held : List ℕ) (len : ℕ) (s : List ℕ) (from : ℕ) (r : Gathered) (after : List ℕ) : Type 0 where
  pub bytes : take r.len after ≡ take (length held) (take len held ++ to_newline s)
  pub long : length after ≡ length held
  pub past : (j : ℕ) → r.len ≤ j → get_or after j 0 ≡ get_or held j 0
  pub len_is : r.len ≡ max len (min (length held) (len + length (to_newline s)))
  pub ended_is : r.ended ≡ ends s
  pub taken_is : r.taken ≡ from + length (to_newline s) + one (ends s)
