use mathlib.Core.Path.{◌≡◌}
use Prim.Native.Nat.{◌+◌, ◌-◌}
use Rattle.neon.specs.Arm.{equal_run}
use Rattle.run_lanes.proofs.bits.run_of.Given as goal

-- the bits from j on are t, and what is left is the run from bit j - 1 down
abbrev pub invariant-loop-j : goal.invariant-loop-j
invariant-loop-j l = equal_run l.t l.k l.a ≡ (l.k - l.j) + equal_run l.t l.j l.a
