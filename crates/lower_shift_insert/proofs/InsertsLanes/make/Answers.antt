use Rattle.lower_shift_insert.proofs.Inserting.{inserted}
use Rattle.lower_shift_insert.proofs.InsertsLanes.make.Goals as goal

pub returns : goal.returns
returns c =
    let s = c.args.self.now in
    inserted s.left s.fits.0 s.fits.1 c.requires.ready.1 s.fits.2 s.fits.3 c.insert_op-op.ensures
    c.extract_lane-a.ensures c.extract_lane-previous.ensures c.bv-shifted.ensures c.konst-mask.ensures c.bv-rest.ensures c.bv.ensures
