-- clip_between: above, then below.
use Rattle.saturation_lane.proofs.Clipping.{between}
use borrow.Author.Rules.{rules}
use Rattle.saturation_lane.proofs.clip.clip_between.Statement.{statement}
use Rattle.saturation_lane.proofs.clip.clip_between.Tie as tie

clip-above-requires : tie.Need-clip_above-above-requires
clip-above-requires c κs = search rules

clip-below-requires : tie.Need-clip_below-requires
clip-below-requires c κs = search rules

same_length : tie.Need-shape_of-pool
same_length c = search rules

returns : tie.Need-returns
returns c =
    let l-clip-below = c in
    let l-clip-above = c in
    let st = c in
    between l-clip-above.clip_above-above.ensures l-clip-below.clip_below.ensures

pub clip_between_spec : {M : Type 1} → statement M
clip_between_spec =
    tie.close (tie.spec clip-above-requires clip-below-requires same_length returns)
