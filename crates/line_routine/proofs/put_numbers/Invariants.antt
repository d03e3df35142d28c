use mathlib.Core.List.{List}
use Prim.Native.Nat.{ℕ}
use Rattle.line_fields.specs.Fields.{fields}
use Rattle.text_digits.specs.Writing.{Wrote}
use Rattle.text_series.specs.Series.{up_to}
use Rattle.line_routine.specs.Routine.{line_at}
use Rattle.line_routine.proofs.put_numbers.Given as goal

abbrev pub rows : List ℕ → ℕ → List ℕ
rows bs j = fields (line_at bs j)

-- the numbers of the lines so far are written
abbrev pub invariant-loop-j : goal.invariant-loop-j
invariant-loop-j l = Wrote l.initial.records 0 (up_to l.j (rows l.bytes)) l.end l.records
