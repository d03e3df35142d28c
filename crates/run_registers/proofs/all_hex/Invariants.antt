use mathlib.Core.Path.{◌≡◌}
use Rattle.run_registers.specs.Digits.{all_hex}
use Rattle.run_registers.proofs.all_hex.Given as goal

-- whether the characters so far are digits
abbrev pub invariant-loop-j : goal.invariant-loop-j
invariant-loop-j l = l.all ≡ all_hex l.bytes l.at l.j
