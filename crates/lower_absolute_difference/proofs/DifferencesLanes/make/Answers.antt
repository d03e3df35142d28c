use Rattle.lower_absolute_difference.proofs.Differing.{difference-added, difference-alone}
use Rattle.lower_absolute_difference.proofs.DifferencesLanes.make.Goals as goal

pub returns-then-self : goal.returns-then-self
returns-then-self c =
    let s = c.args.self.now in
    difference-added s.signed s.accumulate s.fits.0 s.fits.1 c.requires.ready.1 s.fits.2 c.if-self.true
    c.extract_lane-a.ensures c.extract_lane-b.ensures c.absolute_difference_lane-difference.ensures c.extract_lane-previous.ensures c.bv.ensures

pub returns : goal.returns
returns c =
    let s = c.args.self.now in
    difference-alone s.signed s.accumulate s.fits.0 s.fits.1 c.requires.ready.1 s.fits.2 c.if-self.false
    c.extract_lane-a.ensures c.extract_lane-b.ensures c.absolute_difference_lane-difference.ensures
