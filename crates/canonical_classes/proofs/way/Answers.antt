-- `way` gives `way_of`, one bit of the row.
use native.Mathlib.Omega.{arith}
use mathlib.Core.Path.{ap}
use Prim.Native.Nat.{ℕ, ◌/◌, ◌%◌, ◌^◌}
use Rattle.canonical_classes.specs.Key.{way_of}
use Rattle.canonical_classes.proofs.way.Goals as goal

pub returns : goal.returns
unfolding way_of
returns c =
    let a = c.args in
    (ap (λ (x : ℕ). x / 2 ^ (a.level % 64) % 2) c.row.ensures, omega arith)
