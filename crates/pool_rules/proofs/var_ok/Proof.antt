-- var_ok is the rule of a Var
use native.Mathlib.Omega.{arith}
use Rattle.facts.proofs.Numbers.{shifted}
use Rattle.pool_rules.proofs.At.{Own, var-at, var-late}
use borrow.Author.Rules.{rules}
use Rattle.pool_rules.proofs.var_ok.Statement.{statement}
use Rattle.pool_rules.proofs.var_ok.Tie as tie

low-requires : tie.Need-low-x-requires
low-requires c κs = search rules

returns : tie.Need-returns-then-x-ge32
returns c =
    let l-low = c in
    let st = c in
    var-late st.args.p.now st.args.n.0 (omega (arith, l-low.low-x.ensures, c.if-x-ge32.true))

width-of-requires : tie.Need-width_of-requires
width-of-requires c κs = search rules

operand-word-requires : tie.Need-operand_word-requires
operand-word-requires c κs = search rules

high-requires : tie.Need-high-requires
high-requires c κs = search rules

set-of-requires : tie.Need-set_of-requires
set-of-requires c κs = search rules

shl-result : tie.Need-overflow_shl-result
shl-result c = search rules

returns-2 : tie.Need-returns
returns-2 c =
    let l-set-of = c in
    let l-high = l-set-of.before in
    let l-operand-word = l-high.before in
    let l-width-of = l-operand-word.before in
    let l-if1 = l-width-of.before in
    let l-low = l-if1.before in
    let st = c in
    let ws = st.args.p.now in
    let n = st.args.n.0 in
    let own : Own ws n l-width-of.width_of.result l-low.low-x.result l-high.high.result l-set-of.set_of.result =
    record { width_is = l-width-of.width_of.ensures.0; x-is = l-low.low-x.ensures; y-is = l-high.high.ensures; set_is = l-set-of.set_of.ensures.0 } in
    var-at ws n own l-if1.if-x-ge32.false l-operand-word.operand_word.ensures (shifted l-low.low-x.result (omega (arith, l-if1.if-x-ge32.false)))

pub var_ok_spec : {M : Type 1} → statement M
var_ok_spec =
    tie.close
    (tie.spec
    low-requires
    returns
    width-of-requires
    operand-word-requires
    high-requires
    set-of-requires
    shl-result
    returns-2)
