-- `left_after_leaf` meets its contract: the length of a Var's or a Const's text is taken off.
use Rattle.std.proofs.Common.{arith}
use Rattle.text_parts.proofs.Operands.{is-const, register-small, width_small}
use Rattle.text_length.proofs.Sizes.{size-var, size-const}
use Rattle.text_length.proofs.left_after_leaf.Goals as goal

pub decimal_length-requires : goal.decimal_length-requires
decimal_length-requires c =
    let a = c.args in
    rw c.low.ensures (register-small a.p.now a.n.0 c.requires.0 a.k c.requires.1 c.if-k-eq-VAR.true)

pub returns-then-k-eq-VAR : goal.returns-then-k-eq-VAR
returns-then-k-eq-VAR c =
    let a = c.args in
    let size = size-var a.p.now a.n.0 c.requires.0 a.k c.requires.1 c.if-k-eq-VAR.true in
    omega (arith, size, c.saturating_sub.ensures, rw c.low.ensures at c.decimal_length.ensures.0)

pub decimal_length-requires-2 : goal.decimal_length-requires-2
decimal_length-requires-2 c =
    let a = c.args in
    rw c.width_of.ensures.0 (width_small a.p.now a.n.0 c.requires.0 a.k c.requires.1)

pub returns : goal.returns
returns c =
    let a = c.args in
    let const = is-const a.p.now a.n.0 c.requires.0 a.k c.requires.1 c.requires.2 c.if-k-eq-VAR.false in
    let size = size-const a.p.now a.n.0 c.requires.0 a.k c.requires.1 const in
    let width = rw c.width_of.ensures.0 at c.decimal_length-2.ensures.0 in
    omega (arith, size, c.saturating_sub-c.ensures, width, rw (c.low-2.ensures, c.high.ensures) at c.left_after_hex.ensures)
