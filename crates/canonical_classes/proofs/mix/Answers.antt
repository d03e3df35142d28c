-- `mix` gives `mix_of`, which is below 2^61.
use native.Mathlib.Omega.{arith}
use mathlib.Core.Path.{refl}
use Rattle.canonical_classes.specs.Key.{mix_of}
use Rattle.canonical_classes.proofs.mix.Goals as goal

pub returns : goal.returns
unfolding mix_of
returns c = (refl, omega arith)
