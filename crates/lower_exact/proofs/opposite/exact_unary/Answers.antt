-- exact_unary: the negative or the absolute value of a lane, at one bit more.
use Rattle.lower_exact.proofs.Exactly.{unary}
use Rattle.lower_exact.proofs.opposite.exact_unary.Goals as goal

pub returns : goal.returns
returns c =
    let l-negated = c in
    let l-extend = c in
    let st = c in
    unary st.args.negate st.requires.a_lt_count.1 st.requires.a_lt_count.2 l-extend.extend-value.ensures l-negated.negated.ensures
