use mathlib.Core.Path.{◌≡◌}
use Prim.Native.Nat.{◌≤◌}
use Rattle.neon.specs.Arm.{ones}
use Rattle.run_lanes.proofs.bits.count_ones.Given as goal

-- the ones of the bits so far
abbrev pub invariant-loop-j : goal.invariant-loop-j
invariant-loop-j l = record {
  counted : l.r ≡ ones l.j l.a;
  most : l.r ≤ l.j;
}
