-- A whole run of the line program, as its calls of this crate: what it writes are the answers to its input's lines.
use Rattle.std.specs.Prelude.{List, [], ◌++◌, ◌≡◌, ℕ, take, drop}
use Rattle.line.specs.Output.{output}
use Rattle.line_run.specs.declared.Progress.{Progress}
use Rattle.line_run.specs.Going.{Goes, Ends}

-- a run with a pool of p places, that has len bytes of a line in `held`, on an input that is still to come; what it writes
pub data Run (p : ℕ) : List ℕ → ℕ → List ℕ → List ℕ → Type 0 where
  -- answer_lines on a piece from its byte `from` on, and then a run on what that leaves of the piece and on the rest of the input
  piece : {held : List ℕ} {len : ℕ} (s : List ℕ) (from : ℕ) (rest : List ℕ) (r : Progress) (held' out' : List ℕ) {written : List ℕ}
      → Goes p held len s from r held' out' → Run p held' r.line (drop r.taken s ++ rest) written
      → Run p held len (drop from s ++ rest) (take r.output out' ++ written)
  -- answer_last at the end of the input
  last : {held : List ℕ} {len : ℕ} (k : ℕ) (out' : List ℕ) → Ends p held len k out' → Run p held len [] (take k out')

-- whatever the pieces are, and however much of each a call takes
abbrev pub RunWritesOutput : Type 0
RunWritesOutput = (p : ℕ) (held input written : List ℕ) → Run p held 0 input written → written ≡ output p input
