use mathlib.Core.Path.{◌≡◌}
use Prim.Native.Nat.{◌-◌, ◌<◌, ◌^◌}
use Rattle.neon.specs.Arm.{bit_at, lanes}
use Rattle.run_lanes.proofs.bits.reversed.Given as goal

-- the highest bits so far are placed
abbrev pub invariant-loop-j : goal.invariant-loop-j
invariant-loop-j l = record {
  placed : l.r ≡ lanes 1 l.j (λ i. bit_at (l.n - 1 - i) l.a);
  less : l.r < 2 ^ l.j;
}
