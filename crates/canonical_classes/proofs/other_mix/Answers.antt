-- `other_mix` gives `other_mix_of`, which is below 2^61.
use native.Mathlib.Omega.{arith}
use mathlib.Core.Path.{refl}
use Rattle.canonical_classes.specs.Key.{other_mix_of}
use Rattle.canonical_classes.proofs.other_mix.Goals as goal

pub returns : goal.returns
unfolding other_mix_of
returns c = (refl, omega arith)
