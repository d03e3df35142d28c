-- one_where: 1 if the test holds, else the other bit.
use Rattle.saturation_lane.proofs.Clipping.{one-where}
use borrow.Author.Rules.{rules}
use Rattle.saturation_lane.proofs.clip.one_where.Statement.{statement}
use Rattle.saturation_lane.proofs.clip.one_where.Tie as tie

konst-requires : tie.Need-konst-one-requires
konst-requires c κs = search rules

ite-requires : tie.Need-ite-requires
ite-requires c κs = search rules

same_length : tie.Need-shape_of-pool
same_length c = search rules

returns : tie.Need-returns
returns c =
    let l-ite = c in
    let l-konst = c in
    let st = c in
    one-where l-konst.konst-one.ensures l-ite.ite.ensures

pub one_where_spec : {M : Type 1} → statement M
one_where_spec = tie.close (tie.spec konst-requires ite-requires same_length returns)
