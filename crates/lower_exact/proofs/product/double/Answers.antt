-- double: the doubled product of two extended lanes.
use native.Mathlib.Omega.{arith}
use Rattle.lower_exact.proofs.Exactly.{double}
use Rattle.lower_exact.proofs.product.double.Goals as goal

pub returns : goal.returns
returns c =
    let l-bv = c in
    let l-konst = c in
    let l-join = c in
    let st = c in
    double (omega (arith, st.requires)) st.requires.a_lt_count.4 l-join.join-product.ensures l-konst.konst-one.ensures l-bv.bv.ensures
