-- const_ok is the rule of a Const
use mathlib.Core.Path.{◌≡◌, ap, sym, ◌∙◌}
use mathlib.Core.Bool.{Bool, ◌&&◌}
use Prim.Native.Nat.{ℕ, ◌+◌, ◌*◌}
use lib.Dec.{leb, eqb}
use borrow.Author.Tests.{not-true, not-false}
use Rattle.pool.specs.Node.{width_at, set_at}
use Rattle.pool_rules.proofs.At.{const-at, const-not}
use borrow.Author.Rules.{rules}
use Rattle.pool_rules.proofs.const_ok.Statement.{statement}
use Rattle.pool_rules.proofs.const_ok.Tie as tie

width-of-requires : tie.Need-width_of-requires
width-of-requires c κs = search rules

set-of-requires : tie.Need-set_of-requires
set-of-requires c κs = search rules

mul-width : tie.Need-overflow_mul-width
mul-width c = search rules

add-width : tie.Need-overflow_add-width
add-width c = search rules

-- what is read before the test
abbrev read : tie.After-operand_word → ℕ
read c = c.width_of.result + 65536 * c.set_of.result

wide : (c : tie.After-operand_word) → let a = c.args in
    read c ≡ width_at a.p.now a.n.0 + 65536 * set_at a.p.now a.n.0
wide c = λ i. c.width_of.ensures.0 i + 65536 * c.set_of.ensures.0 i

abbrev test : ℕ → ℕ → Bool
test w w1 = leb 1 w && leb w 129 && eqb w1 0

operand-word-requires : tie.Need-operand_word-requires
operand-word-requires c κs = search rules

returns : tie.Need-returns-then-not-width-operand_word
returns c =
    let q = c in
    let a = q.args in
    const-not a.p.now a.n.0 (wide c.before) (sym (ap (test (read c.before)) q.operand_word.ensures) ∙ not-true _ c.if-not-width-operand_word.true-raw)

low-requires : tie.Need-low-requires
low-requires c κs = search rules

high-requires : tie.Need-high-requires
high-requires c κs = search rules

below-requires : tie.Need-below-requires
below-requires c κs = search rules

returns-2 : tie.Need-returns
returns-2 c =
    let l-high = c in
    let l-low = c in
    let l-if1 = c in
    let q = c in
    let a = q.args in
    const-at a.p.now a.n.0 (wide c.before.before.before.before) l-low.low.ensures l-high.high.ensures (sym (ap (test (read c.before.before.before.before)) q.operand_word.ensures) ∙ not-false _ l-if1.if-not-width-operand_word.false-raw)
    c.below.ensures

pub const_ok_spec : {M : Type 1} → statement M
const_ok_spec =
    tie.close
    (tie.spec
    width-of-requires
    set-of-requires
    mul-width
    add-width
    operand-word-requires
    returns
    low-requires
    high-requires
    below-requires
    returns-2)
