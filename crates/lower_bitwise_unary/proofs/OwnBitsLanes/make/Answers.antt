use Rattle.lower_bitwise_unary.proofs.Lanes.{bitwise-at}
use Rattle.lower_bitwise_unary.proofs.OwnBitsLanes.make.Goals as goal

pub returns : goal.returns
returns c =
    let s = c.args.self.now in
    bitwise-at s.kind s.fits.0 c.requires.ready.1 c.cut_from-from.ensures c.bitwise_unary_lane.ensures
