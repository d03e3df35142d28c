use native.Mathlib.Omega.{arith}
use Rattle.lower_bitwise_unary.proofs.Lanes.{nodes-most}
use Rattle.lower_neon.proofs.Sources.{lanes-le, as_is, not-read, within}
use Rattle.lower_neon.proofs.neon_value.Goals as goal

pub returns-in-Saturating : goal.returns-in-Saturating
returns-in-Saturating c =
    let s = c.args.shape in
    let w = c.requires.bound in
    rw c.in-Saturating.is (within (omega (arith, lanes-le s.lane_bits s.lanes w.0 w.3)) (as_is _) (as_is _) (as_is _) c.saturating_lanes.ensures)

pub returns-in-Shift : goal.returns-in-Shift
returns-in-Shift c =
    let s = c.args.shape in
    let w = c.requires.bound in
    rw c.in-Shift.is (within (omega (arith, lanes-le s.lane_bits s.lanes w.0 w.3)) (not-read c.args.d _) (as_is _) (as_is _) c.shift_lanes.ensures)

pub returns-in-ShiftInsert : goal.returns-in-ShiftInsert
returns-in-ShiftInsert c =
    let s = c.args.shape in
    let w = c.requires.bound in
    rw c.in-ShiftInsert.is (within (omega (arith, lanes-le s.lane_bits s.lanes w.0 w.3)) (as_is _) (as_is _) (not-read c.args.second _) c.shift_insert_lanes.ensures)

pub returns-in-MixedSignAdd : goal.returns-in-MixedSignAdd
returns-in-MixedSignAdd c =
    let s = c.args.shape in
    let w = c.requires.bound in
    rw c.in-MixedSignAdd.is (within (omega (arith, lanes-le s.lane_bits s.lanes w.0 w.3)) (as_is _) (as_is _) (not-read c.args.second _) c.mixed_sign_add_lanes.ensures)

pub returns-in-DoublingLong : goal.returns-in-DoublingLong
returns-in-DoublingLong c =
    let s = c.args.shape in
    let w = c.requires.bound in
    rw c.in-DoublingLong.is (within (omega (arith, lanes-le s.lane_bits s.lanes w.0 w.3)) (as_is _) (as_is _) (as_is _) c.doubling_long_lanes.ensures)

pub returns-in-BitwiseUnary : goal.returns-in-BitwiseUnary
returns-in-BitwiseUnary c =
    let s = c.args.shape in
    let w = c.requires.bound in
    rw c.in-BitwiseUnary.is (within (omega (arith, nodes-most s.lane_bits s.lanes w.0 w.3)) (not-read c.args.d _) (as_is _) (not-read c.args.second _) c.bitwise_unary_lanes.ensures)

pub returns-in-AbsoluteDifference : goal.returns-in-AbsoluteDifference
returns-in-AbsoluteDifference c =
    let s = c.args.shape in
    let w = c.requires.bound in
    rw c.in-AbsoluteDifference.is (within (omega (arith, lanes-le s.lane_bits s.lanes w.0 w.3)) (as_is _) (as_is _) (as_is _) c.absolute_difference_lanes.ensures)

pub returns-in-HighNarrow : goal.returns-in-HighNarrow
returns-in-HighNarrow c =
    let s = c.args.shape in
    let w = c.requires.bound in
    rw c.in-HighNarrow.is (within (omega (arith, lanes-le s.lane_bits s.lanes w.0 w.3)) (as_is _) (as_is _) (as_is _) c.high_narrow_lanes.ensures)
