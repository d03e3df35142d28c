-- exact_left_bit: the exact product against the unsigned range.
use Rattle.lower_exact.proofs.Exactly.{then1}
use borrow.Author.Rules.{rules}
use Rattle.saturation_lane.proofs.shift.exact_left_bit.Statement.{statement}
use Rattle.saturation_lane.proofs.shift.exact_left_bit.Tie as tie

add_wide : tie.Need-overflow_add-wide
add_wide c = search rules

add-wide-2 : tie.Need-overflow_add-wide-2
add-wide-2 c = search rules

shift-up-requires : tie.Need-shift_up-exact-requires
shift-up-requires c κs = search rules

clip-requires : tie.Need-clip-requires
clip-requires c κs = search rules

same_length : tie.Need-shape_of-pool
same_length c = search rules

returns : tie.Need-returns
returns c =
    let l-clip = c in
    let l-shift-up = c in
    then1 l-shift-up.shift_up-exact.ensures l-clip.clip.ensures

pub exact_left_bit_spec : {M : Type 1} → statement M
exact_left_bit_spec =
    tie.close (tie.spec add_wide add-wide-2 shift-up-requires clip-requires same_length returns)
