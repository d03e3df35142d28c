use mathlib.Core.Path.{◌≡◌}
use Rattle.run_registers.specs.Start.{skip}
use Rattle.run_registers.proofs.gap_end.Given as goal

-- the gap goes on
abbrev pub invariant-loop-i : goal.invariant-loop-i
invariant-loop-i l = skip l.newlines l.bytes l.i ≡ skip l.newlines l.bytes l.from
