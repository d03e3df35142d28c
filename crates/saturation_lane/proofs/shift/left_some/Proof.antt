-- left_some: the arm that does not clamp is not reached.
use Rattle.saturation_lane.proofs.Shifts.{not-never, some-into}
use borrow.Author.Rules.{rules}
use Rattle.saturation_lane.proofs.shift.left_some.Statement.{statement}
use Rattle.saturation_lane.proofs.shift.left_some.Tie as tie

enum_told : tie.Need-enum_told-1
enum_told c = search rules

enum-known-saturate : tie.Need-enum_known-saturate
enum-known-saturate c = search rules

left-bit-requires : tie.Need-left_bit-requires
left-bit-requires c κs = search rules

returns : tie.Need-returns-in-None
returns c =
    let st = c in
    absurd (not-never st.args.saturate c.in-None.is st.requires.1.3)

same_length : tie.Need-shape_of-pool
same_length c = search rules

returns-2 : tie.Need-returns-in-Some
returns-2 c =
    let l-left-bit = c in
    let l-known-told = c in
    let l-saturate = c in
    let l-match = c in
    let st = c in
    some-into st.args.shift st.args.lane_bits st.args.signed l-saturate.in-Some.is l-left-bit.left_bit.ensures

pub left_some_spec : {M : Type 1} → statement M
left_some_spec =
    tie.close
    (tie.spec enum_told enum-known-saturate left-bit-requires returns same_length returns-2)
