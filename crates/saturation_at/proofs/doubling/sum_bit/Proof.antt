-- sum_bit: the sum of the old lane and the clamped product against the signed range.
use Rattle.lower_exact.proofs.Exactly.{then2}
use borrow.Author.Rules.{rules}
use Rattle.saturation_at.proofs.doubling.sum_bit.Statement.{statement}
use Rattle.saturation_at.proofs.doubling.sum_bit.Tie as tie

add_wide : tie.Need-overflow_add-wide
add_wide c = search rules

join-requires : tie.Need-join-sum-requires
join-requires c κs = search rules

clip-requires : tie.Need-clip-requires
clip-requires c κs = search rules

same_length : tie.Need-shape_of-pool
same_length c = search rules

returns : tie.Need-returns
returns c =
    let l-clip = c in
    let l-join = c in
    let st = c in
    then2 l-join.join-sum.ensures l-clip.clip.ensures

pub sum_bit_spec : {M : Type 1} → statement M
sum_bit_spec = tie.close (tie.spec add_wide join-requires clip-requires same_length returns)
