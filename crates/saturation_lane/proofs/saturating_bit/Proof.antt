-- saturating_bit: the clamp's tests over the exact value.
use native.Mathlib.Omega.{arith}
use Rattle.lower_exact.proofs.Exactly.{exact-fits}
use Rattle.saturation_lane.proofs.Clipping.{saturating}
use borrow.Author.Rules.{rules}
use Rattle.saturation_lane.proofs.saturating_bit.Statement.{statement}
use Rattle.saturation_lane.proofs.saturating_bit.Tie as tie

exact-bits-requires : tie.Need-exact_bits-wide-requires
exact-bits-requires c κs = search rules

exact-lane-requires : tie.Need-exact_lane-value-requires
exact-lane-requires c κs = search rules

clip-requires : tie.Need-clip-requires
clip-requires c κs =
    let l-exact-lane = c in
    let st = c in
    omega (arith, st.requires, l-exact-lane.exact_bits-wide.ensures, l-exact-lane.exact_lane-value.ensures.sized, exact-fits st.args.kind st.args.lane_bits st.requires.1.4)

same_length : tie.Need-shape_of-pool
same_length c = search rules

returns : tie.Need-returns
returns c =
    let l-clip = c in
    let lane = c in
    let a = lane.args in
    saturating a.kind a.to a.lane_bits a.signed_sources lane.exact_bits-wide.ensures lane.requires.1.5
    lane.exact_lane-value.ensures l-clip.clip.ensures

pub saturating_bit_spec : {M : Type 1} → statement M
saturating_bit_spec =
    tie.close (tie.spec exact-bits-requires exact-lane-requires clip-requires same_length returns)
