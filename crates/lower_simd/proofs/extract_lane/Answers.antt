use Rattle.lower_simd.proofs.Cutting.{lane-built}
use Rattle.lower_simd.proofs.extract_lane.Goals as goal

pub returns : goal.returns
returns c = lane-built c.requires.value_lt_count.1 c.extract_collapsing.ensures
