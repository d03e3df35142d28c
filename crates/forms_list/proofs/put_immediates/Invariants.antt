use Rattle.std.proofs.Common.{◌+◌, ◌-◌, ◌≤◌}
use Rattle.text_digits.specs.Writing.{Wrote}
use Rattle.text_series.specs.Series.{up_to}
use Rattle.block_record_check.specs.Record.{instruction}
use Rattle.line_records.specs.Line.{line}
use Rattle.forms_list.proofs.put_immediates.Given as goal

-- the lines of the immediates so far are written
abbrev pub invariant-loop-i : goal.invariant-loop-i
invariant-loop-i l = record {
  from_least : l.least ≤ l.i;
  written : Wrote l.fn.buf l.at (up_to (l.i - l.least) (λ j. line (instruction l.operation l.arrangement (l.least + j) 0 1 l.m))) l.end l.buf;
  up_to_most : l.i - l.least ≤ l.most + 1 - l.least;
}
