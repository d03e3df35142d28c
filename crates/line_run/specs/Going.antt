-- An input that comes in pieces: what the answers to a piece, and to the input's end, leave in the output and of the line.
use Rattle.std.specs.Prelude.{List, [], ◌++◌, ◌≡◌, ℕ, ◌+◌, ◌≤◌, ◌<◌, length, take, drop}
use Rattle.line_output.specs.Answer.{answer_room}
use Rattle.line.specs.Output.{output_from}
use Rattle.line_run.specs.declared.Progress.{Progress}

-- the answers to what is still to come, where len bytes are held of its first line
abbrev pub answers : (p : ℕ) (held : List ℕ) (len : ℕ) (coming : List ℕ) → List ℕ
answers p held len coming = output_from p (take len held) coming

-- a piece was answered from its byte `from` on: whatever comes after it, the bytes put into the output and then the answers to what is left are the
-- answers to what was to come. Something is taken of what is left, and it stops only at the end of the piece or where an answer may have no room
pub record Goes (p : ℕ) (held : List ℕ) (len : ℕ) (piece : List ℕ) (from : ℕ) (r : Progress) (held' out' : List ℕ) : Type 0 where
  pub same : (rest : List ℕ) → take r.output out' ++ answers p held' r.line (drop r.taken piece ++ rest) ≡ answers p held len (drop from piece ++ rest)
  pub line_fits : r.line ≤ length held'
  pub output_fits : r.output ≤ length out'
  pub further : from < length piece → from < r.taken
  pub stops : r.taken < length piece → length out' < r.output + answer_room

-- the input ended: the output has the answers to what was held
pub record Ends (p : ℕ) (held : List ℕ) (len : ℕ) (output : ℕ) (out' : List ℕ) : Type 0 where
  pub same : take output out' ≡ answers p held len []
  pub output_fits : output ≤ length out'
