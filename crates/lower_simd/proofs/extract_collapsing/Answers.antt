use Rattle.lower_simd.proofs.Cutting.{cut-built}
use Rattle.lower_simd.proofs.extract_collapsing.Goals as goal

pub returns : goal.returns
returns c = cut-built c.cut_from-from.ensures c.extract.ensures
