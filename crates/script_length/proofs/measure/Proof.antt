-- `measure` gives the length of the whole script: 1,128 bytes, the nodes' lines and the claim.
use native.Mathlib.Omega.{arith}
use Rattle.script_length.proofs.Sizes.{size-script}
use borrow.Author.Rules.{rules}
use Rattle.script_length.proofs.measure.Statement.{statement}
use Rattle.script_length.proofs.measure.Tie as tie

name-length-requires : tie.Need-name_length-requires
name-length-requires c κs = let st = c in st.requires.0 st.args.x.0 st.requires.2

name-length-requires-2 : tie.Need-name_length-requires-2
name-length-requires-2 c κs = let st = c in st.requires.0 st.args.y.0 st.requires.3

add-claim : tie.Need-overflow_add-claim
add-claim c = search rules

add-claim-2 : tie.Need-overflow_add-claim-2
add-claim-2 c = search rules

lines-length-requires : tie.Need-lines_length-requires
lines-length-requires c κs = search rules

add-result : tie.Need-overflow_add-result
add-result c = search rules

add-result-2 : tie.Need-overflow_add-result-2
add-result-2 c = search rules

returns : tie.Need-returns
returns c =
    let at-name-length2 = c in
    let at-name-length = c in
    let st = c in
    omega (
      arith,
      c.lines_length.ensures.0,
      at-name-length2.name_length-2.ensures.0,
      at-name-length.name_length.ensures.0,
      size-script st.args.p.now
          st.args.count st.args.x.0 st.args.y.0,
    )

pub measure_spec : {M : Type 1} → statement M
measure_spec =
    tie.close
    (tie.spec
    name-length-requires
    name-length-requires-2
    add-claim
    add-claim-2
    lines-length-requires
    add-result
    add-result-2
    returns)
