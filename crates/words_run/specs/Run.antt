-- A whole run of the program `words`, as its calls of this crate: what it writes to standard error and to standard output.
use Rattle.std.specs.Prelude.{Bool, true, false, cond, List, [], ◌++◌, ◌↔◌, ◌≡◌, ℕ, ◌≤◌, ◌<◌, eqb, length, take}
use Rattle.words_lists.specs.Words.{read_refusal}
use Rattle.words_run.specs.declared.Progress.{Progress}
use Rattle.words_run.specs.Rows.{word_count, listing, report, Goes}

-- the rows from word `from` on, in pieces, and what is written
pub data Run (refusals : Bool) (bs : List ℕ) : ℕ → List ℕ → Type 0 where
  -- put_rows from word `from` on, and then the rest
  piece : {from : ℕ} (old : List ℕ) (r : Progress) (new : List ℕ) {written : List ℕ} → Goes refusals bs from old r new → Run refusals bs r.next written
      → Run refusals bs from (take r.output new ++ written)
  -- no word is left
  last : {from : ℕ} → word_count bs ≤ from → Run refusals bs from []

-- the program on an input: with `--list` all rows; else the refusals, and if there are none, all rows
pub data Program (bs : List ℕ) : (all : Bool) → (errors output : List ℕ) → Type 0 where
  lists : {output : List ℕ} → Run false bs 0 output → Program bs true [] output
  refuses : {errors : List ℕ} → Run true bs 0 errors → 0 < length errors → Program bs false errors []
  takes : {errors output : List ℕ} → Run true bs 0 errors → length errors ≡ 0 → Run false bs 0 output → Program bs false errors output

-- a list with a word that encodes no legal form is refused whole: each such word is named, and nothing is listed
abbrev pub errors_of : (all : Bool) → List ℕ → List ℕ
errors_of all bs = cond all [] (report bs)

abbrev pub output_of : (all : Bool) → List ℕ → List ℕ
output_of all bs = cond all (listing bs) (cond (eqb (length (report bs)) 0) (listing bs) [])

-- whatever the pieces are
abbrev pub ProgramWrites : Type 0
ProgramWrites = (bs : List ℕ) (all : Bool) (errors output : List ℕ) → Program bs all errors output → (errors ≡ errors_of all bs) × (output ≡ output_of all bs)

-- there is a report exactly when reading the words refuses them by 12
abbrev pub ReportsRefused : Type 0
ReportsRefused = (bs : List ℕ) (room : ℕ) → (0 < length (report bs)) ↔ ((read_refusal bs room).number ≡ 12)
