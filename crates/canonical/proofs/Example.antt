-- The example of specs/Example.antt, computed. Assumes nothing.
use mathlib.Core.Path.{refl}
use Rattle.canonical.specs.Order.{walk}
use Rattle.canonical.specs.Example.{ExampleWalk}

pub example-walk : ExampleWalk
unfolding walk
example-walk = refl
