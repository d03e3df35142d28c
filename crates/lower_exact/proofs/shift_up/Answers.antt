-- shift_up: the widened lane, shifted.
use Rattle.lower_exact.proofs.Exactly.{up}
use Rattle.lower_exact.proofs.shift_up.Goals as goal

pub returns : goal.returns
returns c =
    let l-bv = c in
    let l-konst = c in
    let l-sign-ext = c in
    let st = c in
    up st.args.shift st.args.lane_bits st.args.wide st.requires.value_lt_count.1 st.requires.value_lt_count.2 st.requires.value_lt_count.3
    l-sign-ext.sign_ext-wide_value.ensures l-konst.konst-by.ensures l-bv.bv.ensures
