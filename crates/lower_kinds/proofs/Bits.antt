-- The bits of a source lane are no fewer than those of the lane that is made. Assumes nothing.
use mathlib.Core.Bool.{Bool, true, false, cond}
use Prim.Native.Nat.{ℕ, ◌*◌, ◌≤◌}
use native.Mathlib.Omega.{arith}
use Rattle.trees.specs.declared.SaturatingKind.{SaturatingKind}
use Rattle.trees.specs.Arith.{narrowing, kind_bits}

-- no lane that is read is narrower than the one that is made
pub source-least : (kind : SaturatingKind) (n : ℕ) → n ≤ kind_bits kind n
source-least kind n = go (narrowing kind)
  where
    go : (b : Bool) → n ≤ cond b (n * 2) n
    go true = omega arith
    go false = omega arith
