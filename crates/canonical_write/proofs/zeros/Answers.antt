-- `zeros` gives an array of 65,536 entries, each 0.
use Rattle.canonical_write.proofs.Arrays.{zeros-are}
use Rattle.canonical_write.proofs.zeros.Goals as goal

pub returns : goal.returns
returns c = zeros-are 65536
