use Rattle.text_digits.specs.Writing.{Wrote}
use Rattle.text_series.specs.Series.{up_to}
use Rattle.script_text.specs.Lines.{declaration_line}
use Rattle.script_text.proofs.put_declarations.Given as goal

-- the lines of the first r registers are written
abbrev pub invariant-loop-r : goal.invariant-loop-r
invariant-loop-r l = Wrote l.fn.buf l.at (up_to l.r declaration_line) l.end l.buf
