-- product_bit: the doubled product against the signed range.
use Rattle.lower_exact.proofs.Exactly.{then2}
use borrow.Author.Rules.{rules}
use Rattle.saturation_at.proofs.doubling.product_bit.Statement.{statement}
use Rattle.saturation_at.proofs.doubling.product_bit.Tie as tie

add_wide : tie.Need-overflow_add-wide
add_wide c = search rules

double-requires : tie.Need-double-value-requires
double-requires c κs = search rules

clip-requires : tie.Need-clip-requires
clip-requires c κs = search rules

same_length : tie.Need-shape_of-pool
same_length c = search rules

returns : tie.Need-returns
returns c =
    let l-clip = c in
    let l-double = c in
    let st = c in
    then2 l-double.double-value.ensures l-clip.clip.ensures

pub product_bit_spec : {M : Type 1} → statement M
product_bit_spec = tie.close (tie.spec add_wide double-requires clip-requires same_length returns)
