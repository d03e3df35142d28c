-- extend_ok is the rule of an extension
use mathlib.Core.Path.{◌≡◌}
use native.Mathlib.Omega.{arith}
use Rattle.pool_fields.specs.Fields.{op_a}
use Rattle.pool_rules.proofs.At.{Own, alone, width-before, set_before, extend-at, extend-late}
use borrow.Author.Rules.{rules}
use Rattle.pool_rules.proofs.extend_ok.Statement.{statement}
use Rattle.pool_rules.proofs.extend_ok.Tie as tie

operand-word-requires : tie.Need-operand_word-rest-requires
operand-word-requires c κs = search rules

returns : tie.Need-returns-then-n-rest
returns c =
    let l-operand-word = c in
    let st = c in
    extend-late st.args.p.now st.args.n.0 (omega (arith, l-operand-word.operand_word-rest.ensures, c.if-n-rest.true))

width-of-requires : tie.Need-width_of-wa-requires
width-of-requires c κs = search rules

width-of-requires-2 : tie.Need-width_of-width-requires
width-of-requires-2 c κs = search rules

low-requires : tie.Need-low-requires
low-requires c κs = search rules

high-requires : tie.Need-high-requires
high-requires c κs = search rules

set-of-requires : tie.Need-set_of-requires
set-of-requires c κs = search rules

set-of-requires-2 : tie.Need-set_of-requires-2
set-of-requires-2 c κs = search rules

returns-2 : tie.Need-returns
returns-2 c =
    let l-set-of2 = c in
    let l-set-of = l-set-of2.before in
    let l-high = l-set-of.before in
    let l-low = l-high.before in
    let l-width-of2 = l-low.before in
    let l-width-of = l-width-of2.before in
    let l-if1 = l-width-of.before in
    let l-operand-word = l-if1.before in
    let st = c in
    let ws = st.args.p.now in
    let n = st.args.n.0 in
    let own : Own ws n l-width-of2.width_of-width.result l-low.low.result l-high.high.result l-set-of.set_of.result =
    record { width_is = l-width-of2.width_of-width.ensures.0; x-is = l-low.low.ensures; y-is = l-high.high.ensures; set_is = l-set-of.set_of.ensures.0 } in
    let e = alone ws n l-operand-word.operand_word-rest.ensures st.requires.1 l-if1.if-n-rest.false in
    let at : l-operand-word.operand_word-rest.result ≡ op_a ws n = omega (arith, l-operand-word.operand_word-rest.ensures, e.no-b, e.no-c) in
    extend-at ws n own e (width-before ws n at l-if1.if-n-rest.false l-width-of.width_of-wa.ensures.0)
    (set_before ws n at l-if1.if-n-rest.false l-set-of2.set_of-2.ensures.0)

pub extend_ok_spec : {M : Type 1} → statement M
extend_ok_spec =
    tie.close
    (tie.spec
    operand-word-requires
    returns
    width-of-requires
    width-of-requires-2
    low-requires
    high-requires
    set-of-requires
    set-of-requires-2
    returns-2)
