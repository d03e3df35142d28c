use Prim.Native.Nat.{ℕ, ◌+◌, ◌≤◌}
use mathlib.Core.List.{[], ◌∷◌}
use Rattle.lower.specs.Builds.{read, unread}
use Rattle.lower.proofs.Lanes.{LanesTo}
use Rattle.lower_bitwise_unary_lane.specs.Layers.{reversed_from}
use Rattle.lower_bitwise_unary_lane.proofs.counts.reverse_bits.Given as goal

-- the top i bits are made, at any width of the value
abbrev pub invariant-loop-i : goal.invariant-loop-i
invariant-loop-i l =
    (wa : ℕ) → l.base.0 + l.lane_bits ≤ wa
    → LanesTo l.fn.pool l.fn.count l.pool l.acc 2 1 unread (read l.value wa) unread (reversed_from l.base.0 l.lane_bits) (l.value.0 ∷ []) l.i
