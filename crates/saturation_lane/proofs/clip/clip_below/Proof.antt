-- clip_below: 1 if the value is less than the bound, else the other bit.
use Rattle.saturation_lane.proofs.Clipping.{below}
use borrow.Author.Rules.{rules}
use Rattle.saturation_lane.proofs.clip.clip_below.Statement.{statement}
use Rattle.saturation_lane.proofs.clip.clip_below.Tie as tie

konst-requires : tie.Need-konst-least-requires
konst-requires c κs = search rules

compare-requires : tie.Need-compare-below-requires
compare-requires c κs = search rules

one-where-requires : tie.Need-one_where-requires
one-where-requires c κs = search rules

same_length : tie.Need-shape_of-pool
same_length c = search rules

returns : tie.Need-returns
returns c =
    let l-one-where = c in
    let l-compare = c in
    let l-konst = c in
    let st = c in
    below st.requires.1.2 st.requires.1.3 st.requires.1.4 l-konst.konst-least.ensures l-compare.compare-below.ensures l-one-where.one_where.ensures

pub clip_below_spec : {M : Type 1} → statement M
clip_below_spec =
    tie.close (tie.spec konst-requires compare-requires one-where-requires same_length returns)
