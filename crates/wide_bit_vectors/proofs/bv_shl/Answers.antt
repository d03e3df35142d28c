-- `bv_shl` gives `bvshl w`, 0 if the amount is not below the width.
use Rattle.std.proofs.Common.{◌<◌, ◌≤◌, ap, ◌∙◌, arith}
use Rattle.std.proofs.lemmas.Bool.Decides.{nat_tests}
use Rattle.terms.specs.Value.{bvshl}
use Rattle.wide.specs.Number.{num}
use Rattle.wide_bit_vectors.proofs.Laws.{shl-at, shl_none, low-is, zero_is}
use Rattle.wide_bit_vectors.proofs.bv_shl.Goals as goal

pub returns-then-not-below : goal.returns-then-not-below
returns-then-not-below c =
    let large : c.args.w ≤ num c.args.t = grind (arith, nat_tests) in
    zero_is ∙ shl_none _ _ _ (omega arith) large

-- past the test the amount is one word, below the width
pub shl-requires : goal.shl-requires
shl-requires c =
    let small : num c.args.t < c.args.w = grind (arith, nat_tests) in
    omega (arith, small, low-is c.args.t c.args.w (omega arith) small)

pub returns : goal.returns
returns c =
    let small : num c.args.t < c.args.w = grind (arith, nat_tests) in
    c.cut.ensures
    ∙ rw c.shl.ensures (shl-at _ _ _ (omega arith) ∙ ap (bvshl c.args.w (num c.args.a)) (low-is c.args.t c.args.w (omega arith) small))
