use mathlib.Core.Bool.{true}
use mathlib.Core.Path.{◌≡◌}
use Prim.Native.Nat.{ℕ, ◌<◌}
use Rattle.line_routine.specs.Routine.{is_line}
use Rattle.line_routine.proofs.good_lines.Given as goal

-- the lines so far are in columns
abbrev pub invariant-loop-j : goal.invariant-loop-j
invariant-loop-j l = (i : ℕ) → i < l.j → is_line l.bytes i ≡ true
