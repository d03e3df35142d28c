use mathlib.Core.Path.{◌≡◌}
use Prim.Native.Nat.{◌<◌}
use Rattle.run_registers.specs.Digits.{hex_at}
use Rattle.run_registers.proofs.Digits.{top}
use Rattle.run_registers.proofs.word_at.Given as goal

-- the number that the digits so far show
abbrev pub invariant-loop-j : goal.invariant-loop-j
invariant-loop-j l = record {
  shows : l.word ≡ hex_at l.bytes l.at l.j;
  fits : l.word < top l.j;
}
