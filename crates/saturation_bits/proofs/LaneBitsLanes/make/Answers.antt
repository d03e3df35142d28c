use native.Mathlib.Omega.{arith}
use Rattle.lower.proofs.Lanes.{lane-fits}
use Rattle.lower_neon.proofs.Sources.{as_is, not-read, within}
use Rattle.saturation_bits.proofs.Joining.{from-fits, with-fits, any-source, doubled}
use Rattle.saturation_bits.proofs.LaneBitsLanes.make.Goals as goal

pub doubling_at-requires-clause-le_lane_bits : goal.doubling_at-requires-clause-le_lane_bits
doubling_at-requires-clause-le_lane_bits c =
    let s = c.args.self.now in
    let n = s.shape.lane_bits in
    let e = c.in-DoublingLong.is in
    let f = from-fits e n s.shape.lanes c.requires.ready.1 s.fits.2 c.source_lane-from.ensures in (
      omega (arith, s.fits.0),
      s.fits.1,
      f,
      with-fits e n s.shape.source_index.0 c.source_lane-from.result.0 c.second_factor-with.ensures (rw e at s.of_row) f,
      lane-fits n c.args.index.0 s.shape.lanes c.requires.ready.1 s.fits.2,
    )

pub returns-in-Shift : goal.returns-in-Shift
returns-in-Shift c = rw c.in-Shift.is (within (omega arith) (not-read c.args.self.now.d _) (as_is _) (as_is _) c.shift_at.ensures)

pub returns-in-MixedSignAdd : goal.returns-in-MixedSignAdd
returns-in-MixedSignAdd c = rw c.in-MixedSignAdd.is (within (omega arith) (as_is _) (as_is _) (not-read c.args.self.now.second _) c.mixed_at.ensures)

pub returns-in-DoublingLong : goal.returns-in-DoublingLong
returns-in-DoublingLong c =
    let s = c.args.self.now.shape in
    doubled s.lane_bits s.lanes s.source_index.0 c.args.index.0 c.in-DoublingLong.is c.source_lane-from.ensures c.second_factor-with.ensures c.doubling_at.ensures

pub returns-in-Saturating : goal.returns-in-Saturating
returns-in-Saturating c = rw c.in-Saturating.is (within (omega arith) (any-source _) (as_is _) (as_is _) c.saturating_some.ensures)
