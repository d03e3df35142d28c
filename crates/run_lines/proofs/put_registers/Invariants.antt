use mathlib.Core.List.{List}
use Prim.Native.Nat.{ℕ, ◌*◌, ◌≤◌}
use Rattle.text_digits.specs.Writing.{Wrote}
use Rattle.text_series.specs.Series.{up_to}
use Rattle.wide.specs.Registers.{registers_of}
use Rattle.run_lines.specs.Output.{register_line}
use Rattle.run_lines.proofs.put_registers.Given as goal

abbrev pub rows : (start after : List ℕ) → ℕ → List ℕ
rows start after r = register_line r (registers_of start r) (registers_of after r)

-- the lines of the registers so far are written, each of at most 39 bytes
abbrev pub invariant-loop-r : goal.invariant-loop-r
invariant-loop-r l = record {
  wrote : Wrote l.initial.buf 0 (up_to l.r (rows l.start.words l.after.words)) l.end l.buf;
  most : l.end ≤ 39 * l.r;
}
