-- `lane_at` answers `family_lane` and `family_beyond`: each family's function by its own contract.
use mathlib.Core.Path.{◌≡◌, refl, subst}
use Prim.Native.Nat.{◌^◌, ◌≤◌, ◌<◌}
use Rattle.trees.specs.declared.NeonOp.{NeonOp}
use Rattle.saturation.specs.Family.{family_lane, family_beyond}
use Rattle.run_lanes.specs.Rows.{RowIn, source_of}
use borrow.Author.Rules.{rules}
use Rattle.run_lanes.proofs.lane_at.Statement.{statement}
use Rattle.run_lanes.proofs.lane_at.Tie as tie

-- what is asked of the lane and its sources if the operation is o
abbrev Asked : tie.Start → NeonOp → Type 0
Asked s o =
    let a = s.args in
    (0 < a.n) × (a.n ≤ 64) × (a.d < 2 ^ a.n) × (a.a < 2 ^ source_of o a.n) × (a.b < 2 ^ source_of o a.n) × RowIn o a.n

asked : (s : tie.Start) {o : NeonOp} → s.args.op ≡ o → Asked s o
asked s e = subst (Asked s) e s.requires

enum-known-op : tie.Need-enum_known-op
enum-known-op c = search rules

shift-lane-requires : tie.Need-shift_lane-requires
shift-lane-requires c κs =
    let p = asked c.before c.in-Shift.is in
    (p.0, p.1, p.3, p.5)

enum-known-op-2 : tie.Need-enum_known-op-in-ShiftInsert-1
enum-known-op-2 c = search rules

insert-lane-requires : tie.Need-insert_lane-requires
insert-lane-requires c κs =
    let p = asked c.before c.in-ShiftInsert.is in
    (p.0, p.1, p.3, p.2, p.5)

enum-known-op-3 : tie.Need-enum_known-op-in-MixedSignAdd-1
enum-known-op-3 c = search rules

mixed-lane-requires : tie.Need-mixed_lane-requires
mixed-lane-requires c κs =
    let p = asked c.before c.in-MixedSignAdd.is in
    (p.0, p.1, p.3, p.2)

enum-known-op-4 : tie.Need-enum_known-op-in-DoublingLong-1
enum-known-op-4 c = search rules

doubling-lane-requires : tie.Need-doubling_lane-requires
doubling-lane-requires c κs =
    let p = asked c.before c.in-DoublingLong.is in
    (p.5, p.1, p.3, p.4, p.2)

enum-known-op-5 : tie.Need-enum_known-op-in-Saturating-1
enum-known-op-5 c = search rules

saturating-lane-requires : tie.Need-saturating_lane-requires
saturating-lane-requires c κs =
    let p = asked c.before c.in-Saturating.is in
    (p.0, p.3, p.4, p.5)

enum-known-op-6 : tie.Need-enum_known-op-in-BitwiseUnary-1
enum-known-op-6 c = search rules

bits-lane-requires : tie.Need-bits_lane-requires
bits-lane-requires c κs = search rules

enum-known-op-7 : tie.Need-enum_known-op-in-AbsoluteDifference-1
enum-known-op-7 c = search rules

difference-lane-requires : tie.Need-difference_lane-requires
difference-lane-requires c κs =
    let p = asked c.before c.in-AbsoluteDifference.is in
    (p.0, p.1, p.3, p.4)

enum-known-op-8 : tie.Need-enum_known-op-in-HighNarrow-1
enum-known-op-8 c = search rules

high-lane-requires : tie.Need-high_lane-requires
high-lane-requires c κs =
    let p = asked c.before c.in-HighNarrow.is in
    (p.0, p.5)

returns : tie.Need-returns-in-Shift
unfolding family_lane family_beyond
returns c = rw c.in-Shift.is c.shift_lane.ensures

returns-2 : tie.Need-returns-in-ShiftInsert
unfolding family_lane family_beyond
returns-2 c = rw c.in-ShiftInsert.is (record { bits_are = c.insert_lane.ensures; saturated_is = refl })

returns-3 : tie.Need-returns-in-MixedSignAdd
unfolding family_lane family_beyond
returns-3 c = rw c.in-MixedSignAdd.is c.mixed_lane.ensures

returns-4 : tie.Need-returns-in-DoublingLong
unfolding family_lane family_beyond
returns-4 c = rw c.in-DoublingLong.is c.doubling_lane.ensures

returns-5 : tie.Need-returns-in-Saturating
unfolding family_lane family_beyond
returns-5 c = rw c.in-Saturating.is c.saturating_lane.ensures

returns-6 : tie.Need-returns-in-BitwiseUnary
unfolding family_lane family_beyond
returns-6 c = rw c.in-BitwiseUnary.is (record { bits_are = c.bits_lane.ensures; saturated_is = refl })

returns-7 : tie.Need-returns-in-AbsoluteDifference
unfolding family_lane family_beyond
returns-7 c = rw c.in-AbsoluteDifference.is c.difference_lane.ensures

returns-8 : tie.Need-returns-in-HighNarrow
unfolding family_lane family_beyond
returns-8 c = rw c.in-HighNarrow.is (record { bits_are = c.high_lane.ensures; saturated_is = refl })

pub lane_at_spec : {M : Type 1} → statement M
lane_at_spec =
    tie.close
    (tie.spec
    enum-known-op
    shift-lane-requires
    enum-known-op-2
    insert-lane-requires
    enum-known-op-3
    mixed-lane-requires
    enum-known-op-4
    doubling-lane-requires
    enum-known-op-5
    saturating-lane-requires
    enum-known-op-6
    bits-lane-requires
    enum-known-op-7
    difference-lane-requires
    enum-known-op-8
    high-lane-requires
    returns
    returns-2
    returns-3
    returns-4
    returns-5
    returns-6
    returns-7
    returns-8)
