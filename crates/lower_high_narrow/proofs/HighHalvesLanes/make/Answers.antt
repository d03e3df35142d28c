use Rattle.lower_high_narrow.proofs.Narrowing.{high-at}
use Rattle.lower_high_narrow.proofs.HighHalvesLanes.make.Goals as goal

pub returns : goal.returns
returns c =
    let s = c.args.self.now in
    high-at s.subtract s.rounding c.requires.ready.1 c.extract_lane-a.ensures c.extract_lane-b.ensures c.high_narrow_lane.ensures
