-- `lane_measure` gives the length of the whole script. Assumes nothing.
use native.Mathlib.Omega.{arith}
use Rattle.script_lane_length.proofs.Sizes.{size-script}
use borrow.Author.Rules.{rules}
use Rattle.script_lane_length.proofs.lane_measure.Statement.{statement}
use Rattle.script_lane_length.proofs.lane_measure.Tie as tie

cut-length-requires : tie.Need-cut_length-requires
cut-length-requires c κs = let st = c in (st.requires.0 st.args.x.0 st.requires.2, st.requires.4, st.requires.5)

cut-length-requires-2 : tie.Need-cut_length-requires-2
cut-length-requires-2 c κs = let st = c in (st.requires.0 st.args.y.0 st.requires.3, st.requires.4, st.requires.5)

add-claim : tie.Need-overflow_add-claim
add-claim c = search rules

add-claim-2 : tie.Need-overflow_add-claim-2
add-claim-2 c = search rules

nodes-length-requires : tie.Need-nodes_length-requires
nodes-length-requires c κs = search rules

add-result : tie.Need-overflow_add-result
add-result c = search rules

add-result-2 : tie.Need-overflow_add-result-2
add-result-2 c = search rules

returns : tie.Need-returns
returns c =
    let at-cut-length2 = c in
    let at-cut-length = c in
    let st = c in
    omega (
      arith,
      c.nodes_length.ensures.0,
      at-cut-length2.cut_length-2.ensures.0,
      at-cut-length.cut_length.ensures.0,
      size-script st.args.p.now
          st.args.count st.args.x.0 st.args.y.0 st.args.hi.0 st.args.lo.0,
    )

pub lane_measure_spec : {M : Type 1} → statement M
lane_measure_spec =
    tie.close
    (tie.spec
    cut-length-requires
    cut-length-requires-2
    add-claim
    add-claim-2
    nodes-length-requires
    add-result
    add-result-2
    returns)
