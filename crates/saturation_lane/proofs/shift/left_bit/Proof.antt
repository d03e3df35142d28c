-- left_bit: SQSHLU by its exact product, the others by what the shift loses.
use Rattle.saturation_lane.proofs.Shifts.{left-exact, left-lost}
use borrow.Author.Rules.{rules}
use Rattle.saturation_lane.proofs.shift.left_bit.Statement.{statement}
use Rattle.saturation_lane.proofs.shift.left_bit.Tie as tie

enum_told : tie.Need-enum_told-1
enum_told c = search rules

exact-left-bit-requires : tie.Need-exact_left_bit-requires
exact-left-bit-requires c κs = search rules

same_length : tie.Need-shape_of-pool-in-SignedToUnsigned
same_length c = search rules

returns : tie.Need-returns-in-SignedToUnsigned
returns c =
    let l-exact-left-bit = c in
    let l-enum-told = c in
    let st = c in
    left-exact st.args.shift st.args.lane_bits st.args.signed l-enum-told.in-SignedToUnsigned.is l-exact-left-bit.exact_left_bit.ensures

konst-requires : tie.Need-konst-by-requires
konst-requires c κs = search rules

lost-requires : tie.Need-lost-requires
lost-requires c κs = search rules

same-length-2 : tie.Need-shape_of-pool
same-length-2 c = search rules

returns-2 : tie.Need-returns
returns-2 c =
    let l-lost = c in
    let l-konst = c in
    let l-match = c in
    let st = c in
    left-lost {to = st.args.to} st.args.shift st.args.lane_bits st.args.signed st.requires.1.1 st.requires.1.2 l-match.in_default.not-SignedToUnsigned
    l-konst.konst-by.ensures l-lost.lost.ensures

pub left_bit_spec : {M : Type 1} → statement M
left_bit_spec =
    tie.close
    (tie.spec
    enum_told
    exact-left-bit-requires
    same_length
    returns
    konst-requires
    lost-requires
    same-length-2
    returns-2)
