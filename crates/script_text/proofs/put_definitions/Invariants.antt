use Rattle.text_digits.specs.Writing.{Wrote}
use Rattle.text_series.specs.Series.{up_to}
use Rattle.script_text.specs.Lines.{line_at}
use Rattle.script_text.proofs.put_definitions.Given as goal

-- the lines of the nodes below n are written
abbrev pub invariant-loop-n : goal.invariant-loop-n
invariant-loop-n l = Wrote l.fn.buf l.at (up_to l.n (line_at l.p)) l.end l.buf
