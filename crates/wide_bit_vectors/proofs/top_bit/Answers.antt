-- `top_bit` gives `msb w`: the lowest bit after a shift by w - 1.
use Rattle.wide_bit_vectors.proofs.Laws.{msb-is}
use Rattle.wide_bit_vectors.proofs.top_bit.Goals as goal

pub returns : goal.returns
returns c = msb-is _ _ c.shr.result c.shr.ensures
