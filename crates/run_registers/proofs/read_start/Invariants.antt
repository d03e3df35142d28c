use Rattle.run_registers.proofs.Starts.{Reading}
use Rattle.run_registers.proofs.read_start.Given as goal

-- the registers so far were read
abbrev pub invariant-loop-r : goal.invariant-loop-r
invariant-loop-r l = Reading l.bytes l.initial.words l.words l.next l.r
