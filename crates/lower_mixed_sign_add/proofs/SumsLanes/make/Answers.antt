use Rattle.lower_mixed_sign_add.proofs.Summing.{mixed-lane}
use Rattle.lower_mixed_sign_add.proofs.SumsLanes.make.Goals as goal

pub returns : goal.returns
returns c =
    let s = c.args.self.now in
    mixed-lane s.destination_signed s.fits.0 c.requires.ready.1 s.fits.2 c.mixed_to.ensures c.extract_lane-previous.ensures c.extract_lane-addend.ensures
    c.join-sum.ensures c.clamp.ensures
