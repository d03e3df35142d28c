-- `bv_lshr` gives `bvlshr w`, 0 if the amount is not below the width.
use Rattle.std.proofs.Common.{◌<◌, ◌≤◌, ap, ◌∙◌, arith}
use Rattle.std.proofs.lemmas.Bool.Decides.{nat_tests}
use Rattle.terms.specs.Value.{bvlshr}
use Rattle.wide.specs.Number.{num}
use Rattle.wide_bit_vectors.proofs.Laws.{lshr-at, lshr-none, low-is, zero_is}
use Rattle.wide_bit_vectors.proofs.bv_lshr.Goals as goal

pub returns-then-not-below : goal.returns-then-not-below
returns-then-not-below c =
    let large : c.args.w ≤ num c.args.t = grind (arith, nat_tests) in
    zero_is ∙ lshr-none _ _ _ (omega arith) c.requires.1 large

-- past the test the amount is one word, below the width
pub shr-requires : goal.shr-requires
shr-requires c =
    let small : num c.args.t < c.args.w = grind (arith, nat_tests) in
    omega (arith, small, low-is c.args.t c.args.w (omega arith) small)

pub returns : goal.returns
returns c =
    let small : num c.args.t < c.args.w = grind (arith, nat_tests) in
    c.shr.ensures ∙ lshr-at _ _ _ (omega arith) c.requires.1
    ∙ ap (bvlshr c.args.w (num c.args.a)) (low-is c.args.t c.args.w (omega arith) small)
