-- mixed_bit: the sum of the two signs against the range of the destination.
use mathlib.Core.Path.{refl}
use Rattle.saturation_lane.proofs.Clipping.{mixed}
use borrow.Author.Rules.{rules}
use Rattle.saturation_lane.proofs.mixed_bit.Statement.{statement}
use Rattle.saturation_lane.proofs.mixed_bit.Tie as tie

add_wide : tie.Need-overflow_add-wide
add_wide c = search rules

mixed-to-requires : tie.Need-mixed_to-to-requires
mixed-to-requires c κs = search rules

join-requires : tie.Need-join-sum-requires
join-requires c κs = search rules

clip-requires : tie.Need-clip-requires
clip-requires c κs = search rules

same_length : tie.Need-shape_of-pool
same_length c = search rules

returns : tie.Need-returns
returns c =
    let l-clip = c in
    let l-join = c in
    let l-mixed-to = c in
    let st = c in
    mixed st.args.lane_bits st.args.destination_signed refl l-mixed-to.mixed_to-to.ensures l-join.join-sum.ensures l-clip.clip.ensures

pub mixed_bit_spec : {M : Type 1} → statement M
mixed_bit_spec =
    tie.close (tie.spec add_wide mixed-to-requires join-requires clip-requires same_length returns)
