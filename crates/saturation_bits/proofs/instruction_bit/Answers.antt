use Rattle.lower_neon.proofs.Sources.{lanes-le}
use Rattle.saturation_bits.proofs.Joining.{instruction}
use Rattle.saturation_bits.proofs.instruction_bit.Goals as goal

pub returns : goal.returns
returns c =
    let s = c.args.shape in
    let w = c.requires.bound in
    instruction s w.2 (lanes-le s.lane_bits s.lanes w.0 w.3) c.concat_each-bits.ensures c.konst-zero.ensures c.compare-none.ensures c.konst-one.ensures c.ite.ensures
