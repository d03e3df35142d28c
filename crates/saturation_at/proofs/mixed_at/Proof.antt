-- mixed_at: a lane of d and one of the source.
use Rattle.saturation_at.proofs.At.{at-mixed}
use borrow.Author.Rules.{rules}
use Rattle.saturation_at.proofs.mixed_at.Statement.{statement}
use Rattle.saturation_at.proofs.mixed_at.Tie as tie

extract-lane-requires : tie.Need-extract_lane-prior-requires
extract-lane-requires c κs = search rules

extract-lane-requires-2 : tie.Need-extract_lane-addend-requires
extract-lane-requires-2 c κs = search rules

mixed-bit-requires : tie.Need-mixed_bit-requires
mixed-bit-requires c κs = search rules

same_length : tie.Need-shape_of-pool
same_length c = search rules

returns : tie.Need-returns
returns c =
    let l-mixed-bit = c in
    let l-extract-lane2 = c in
    let l-extract-lane = c in
    let st = c in
    at-mixed st.args.destination_signed st.requires.1.1.2 l-extract-lane.extract_lane-prior.ensures l-extract-lane2.extract_lane-addend.ensures l-mixed-bit.mixed_bit.ensures

pub mixed_at_spec : {M : Type 1} → statement M
mixed_at_spec =
    tie.close
    (tie.spec extract-lane-requires extract-lane-requires-2 mixed-bit-requires same_length returns)
