-- `left_after_single` meets its contract: the length of what stands after an only operand is taken off.
use Rattle.std.proofs.Common.{arith}
use Rattle.text_parts.proofs.Operands.{is-single, from-18, range_small, width_small}
use Rattle.text_length.proofs.Sizes.{about-extract, about-extend}
use Rattle.text_length.proofs.left_after_single.Goals as goal

-- the numbers of an Extract have decimal lengths
pub decimal_length-requires : goal.decimal_length-requires
decimal_length-requires c =
    let a = c.args in
    rw c.cut_hi.ensures (range_small a.p.now a.n.0 c.requires.0 a.k c.requires.1 c.if-k-eq-EXTRACT.true).0

pub decimal_length-requires-then-k-eq-EXTRACT : goal.decimal_length-requires-then-k-eq-EXTRACT
decimal_length-requires-then-k-eq-EXTRACT c =
    let a = c.args in
    rw c.cut_lo.ensures (range_small a.p.now a.n.0 c.requires.0 a.k c.requires.1 c.if-k-eq-EXTRACT.true).1

pub returns-then-k-eq-EXTRACT : goal.returns-then-k-eq-EXTRACT
returns-then-k-eq-EXTRACT c =
    let a = c.args in
    let about = about-extract a.p.now a.n.0 c.requires.0 a.k c.requires.1 c.if-k-eq-EXTRACT.true in
    let hi = rw c.cut_hi.ensures at c.decimal_length.ensures.0 in
    let lo = rw c.cut_lo.ensures at c.decimal_length-then-k-eq-EXTRACT.ensures.0 in
    omega (arith, about, c.saturating_sub-c.ensures, c.saturating_sub.ensures, hi, lo)

pub decimal_length-requires-2 : goal.decimal_length-requires-2
decimal_length-requires-2 c =
    let a = c.args in
    rw c.width_of.ensures.0 (width_small a.p.now a.n.0 c.requires.0 a.k c.requires.1)

pub returns : goal.returns
returns c =
    let a = c.args in
    let about = about-extend a.p.now a.n.0 c.requires.0 a.k c.requires.1 (from-18 (is-single _ c.requires.2) c.if-k-eq-EXTRACT.false) in
    omega (arith, about, c.saturating_sub-2.ensures, rw c.width_of.ensures.0 at c.decimal_length-2.ensures.0)
