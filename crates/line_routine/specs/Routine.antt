-- A routine in document 01's columns: lines of 24 characters, each ended by a newline; the last newline may be missing.
use Rattle.std.specs.Prelude.{Bool, ◌&&◌, List, ◌≡◌, ℕ, ◌+◌, ◌*◌, ◌/◌, leb, eqb, length, get_or, take, drop}
use Rattle.facts.specs.Refuse.{by_number, list_by, unless}
use Rattle.neon.specs.declared.Instruction.{Instruction}
use Rattle.neon.specs.Refusal.{Refusal, refusal, first_of, first_refusal, PassedTo}
use Rattle.block_check.specs.declared.ListAnswer.{ListAnswer}
use Rattle.block_check.specs.Records.{records_of}
use Rattle.line_fields.specs.Fields.{in_columns, fields}
use Rattle.text_series.specs.Series.{up_to}

-- a line is 25 bytes, of the last the newline may be missing
abbrev pub line_count : List ℕ → ℕ
line_count bs = (length bs + 24) / 25

-- the characters of line j, if the lines before it are in columns
abbrev pub line_at : List ℕ → ℕ → List ℕ
line_at bs j = take 24 (drop (25 * j) bs)

-- line j is in columns, and a newline or nothing comes after it
unfoldable pub is_line : List ℕ → ℕ → Bool
is_line bs j = in_columns (line_at bs j) && eqb (get_or bs (25 * j + 24) 10) 10

-- 10 and the position of the first line that is not in columns
abbrev pub lines_refusal : List ℕ → Refusal
lines_refusal bs = first_refusal (is_line bs) 10 (line_count bs) 0

-- then 8 if there are more lines than a list of so many numbers holds
unfoldable pub read_refusal : List ℕ → (room : ℕ) → Refusal
read_refusal bs room = first_of (lines_refusal bs) (refusal (unless (leb (6 * line_count bs) room) 8 0) 0)

-- the numbers of all lines, six each, and the records that they are
unfoldable pub numbers_in : List ℕ → List ℕ
numbers_in bs = up_to (line_count bs) λ j. fields (line_at bs j)

abbrev pub routine_of : List ℕ → List Instruction
routine_of bs = records_of (numbers_in bs)

-- the first line that is not in columns; then what refuses the block of the records
unfoldable pub routine_refusal : List ℕ → (block : Refusal) → Refusal
routine_refusal bs block = first_of (lines_refusal bs) block

-- lines were read
pub record LinesRead (bs old : List ℕ) (r : ListAnswer) (new : List ℕ) : Type 0 where
  pub number_is : r.number ≡ (read_refusal bs (length old)).number
  pub position_is : r.position ≡ (read_refusal bs (length old)).position
  pub count_is : r.count ≡ by_number (read_refusal bs (length old)).number (line_count bs)
  pub list_is : new ≡ list_by (read_refusal bs (length old)).number (numbers_in bs) old

-- the first r lines are in columns, and line r, if there is one, is not
abbrev pub Good : List ℕ → ℕ → Type 0
Good bs r = PassedTo (is_line bs) (line_count bs) r
