-- join: two extended lanes, added or subtracted.
use Rattle.lower_exact.proofs.Exactly.{join}
use Rattle.lower_exact.proofs.join.Goals as goal

pub returns : goal.returns
returns c =
    let l-bv = c in
    let l-extend2 = c in
    let l-extend = c in
    let st = c in
    join st.requires.a_lt_count.2 st.requires.a_lt_count.3 st.requires.a_lt_count.4 l-extend.extend-wide_a.ensures l-extend2.extend-wide_b.ensures l-bv.bv.ensures
