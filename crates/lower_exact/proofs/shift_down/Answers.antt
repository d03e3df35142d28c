-- shift_down: half a unit added if it rounds, then the shift.
use Rattle.lower_exact.proofs.Exactly.{down}
use Rattle.lower_exact.proofs.shift_down.Goals as goal

pub returns : goal.returns
returns c =
    let l-bv = c in
    let l-konst = c in
    let l-plus-if = c in
    let l-shift-op = c in
    let st = c in
    down st.args.signed st.args.rounding st.args.half st.args.shift st.args.wide st.requires.value_lt_count.1 st.requires.value_lt_count.2 st.requires.value_lt_count.4
    l-shift-op.shift_op-op.ensures l-plus-if.plus_if-rounded.ensures l-konst.konst-by.ensures l-bv.bv.ensures
