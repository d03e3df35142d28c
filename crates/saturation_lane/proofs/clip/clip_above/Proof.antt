-- clip_above: 1 if the bound is less than the value.
use Rattle.saturation_lane.proofs.Clipping.{above}
use borrow.Author.Rules.{rules}
use Rattle.saturation_lane.proofs.clip.clip_above.Statement.{statement}
use Rattle.saturation_lane.proofs.clip.clip_above.Tie as tie

konst-requires : tie.Need-konst-most-requires
konst-requires c κs = search rules

compare-requires : tie.Need-compare-above-requires
compare-requires c κs = search rules

konst-requires-2 : tie.Need-konst-zero-requires
konst-requires-2 c κs = search rules

one-where-requires : tie.Need-one_where-requires
one-where-requires c κs = search rules

same_length : tie.Need-shape_of-pool
same_length c = search rules

returns : tie.Need-returns
returns c =
    let l-one-where = c in
    let l-konst2 = c in
    let l-compare = c in
    let l-konst = c in
    let st = c in
    above st.requires.1.1 st.requires.1.2 st.requires.1.3 l-konst.konst-most.ensures l-compare.compare-above.ensures l-konst2.konst-zero.ensures l-one-where.one_where.ensures

pub clip_above_spec : {M : Type 1} → statement M
clip_above_spec =
    tie.close
    (tie.spec
    konst-requires
    compare-requires
    konst-requires-2
    one-where-requires
    same_length
    returns)
