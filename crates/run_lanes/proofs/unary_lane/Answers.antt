-- `unary_lane` answers `saturating_lane_z` of Unary: the negative or the magnitude, clamped into the signed range.
use native.Mathlib.Omega.{arith}
use Rattle.run_exact.proofs.Laws.{fitting}
use Rattle.run_lanes.proofs.unary_lane.Goals as goal

pub returns : goal.returns
returns c = c.limit.ensures _ (fitting (omega arith) (c.unary.ensures 65 _ (omega arith) (omega arith) c.read.ensures))
