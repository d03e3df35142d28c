use Rattle.text_digits.specs.Writing.{Wrote}
use Rattle.text_series.specs.Series.{up_to}
use Rattle.script_lane_text.specs.Lines.{lines_at}
use Rattle.script_lane_text.proofs.put_nodes.Given as goal

-- the lines of the nodes below n are written
abbrev pub invariant-loop-n : goal.invariant-loop-n
invariant-loop-n l = Wrote l.fn.buf l.at (up_to l.n (lines_at l.p)) l.end l.buf
