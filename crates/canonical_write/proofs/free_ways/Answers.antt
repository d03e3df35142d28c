-- `free_ways` gives 131,072 slots without links.
use Rattle.canonical_write.proofs.Arrays.{zeros-are}
use Rattle.canonical_write.proofs.free_ways.Goals as goal

pub returns : goal.returns
returns c = zeros-are 131072
