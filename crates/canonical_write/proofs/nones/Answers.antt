-- `nones` gives an array that has no number for any node.
use mathlib.Core.Path.{refl}
use Rattle.canonical_write.proofs.Arrays.{nones-are}
use Rattle.canonical_write.proofs.nones.Goals as goal

pub returns : goal.returns
returns c = nones-are 65536 refl
