-- extract_ok is the rule of an Extract
use mathlib.Core.Path.{◌≡◌}
use native.Mathlib.Omega.{arith}
use Rattle.pool_fields.specs.Fields.{op_a}
use Rattle.pool_rules.proofs.At.{Own, Alone, w_a, alone, width-before, set_before, extract-at, extract-late, reversed, too-high}
use borrow.Author.Rules.{rules}
use Rattle.pool_rules.proofs.extract_ok.Statement.{statement}
use Rattle.pool_rules.proofs.extract_ok.Tie as tie

-- word 1 is the operand alone
module _ (c : tie.Else-n-rest) where
  only : Alone c.args.p.now c.args.n.0
  only = alone c.args.p.now c.args.n.0 c.operand_word-rest.ensures c.requires.1 c.if-n-rest.false

  operand-is : c.operand_word-rest.result ≡ op_a c.args.p.now c.args.n.0
  operand-is = omega (arith, c.operand_word-rest.ensures, only.no-b, only.no-c)

-- the operand's width is read
module _ (c : tie.After-width_of) where
  abbrev one : tie.Else-n-rest
  one = c.before.before.before.before

  wide : c.width_of.result ≡ w_a c.args.p.now c.args.n.0
  wide = width-before c.args.p.now c.args.n.0 (operand-is one) c.if-n-rest.false c.width_of.ensures.0

cut-hi-requires : tie.Need-cut_hi-hi-requires
cut-hi-requires c κs = search rules

cut-lo-requires : tie.Need-cut_lo-lo-requires
cut-lo-requires c κs = search rules

operand-word-requires : tie.Need-operand_word-rest-requires
operand-word-requires c κs = search rules

returns : tie.Need-returns-then-n-rest
returns c = extract-late c.args.p.now c.args.n.0 (omega (arith, c.operand_word-rest.ensures, c.if-n-rest.true))

returns-2 : tie.Need-returns-then-hi-lo
returns-2 c = reversed c.args.p.now c.args.n.0 (omega (arith, c.cut_lo-lo.ensures, c.cut_hi-hi.ensures, c.if-hi-lo.true))

width-of-requires : tie.Need-width_of-requires
width-of-requires c κs = search rules

returns-3 : tie.Need-returns-then-width_of-hi
returns-3 c =
    too-high c.args.p.now c.args.n.0 (omega (arith, wide c.before.before, c.cut_hi-hi.ensures, c.if-width_of-hi.true))

width-of-requires-2 : tie.Need-width_of-requires-2
width-of-requires-2 c κs = search rules

add-result : tie.Need-overflow_add-result
add-result c = search rules

set-of-requires : tie.Need-set_of-requires
set-of-requires c κs = search rules

set-of-requires-2 : tie.Need-set_of-requires-2
set-of-requires-2 c κs = search rules

returns-4 : tie.Need-returns
returns-4 c =
    let ws = c.args.p.now in
    let n = c.args.n.0 in
    let v : tie.After-width_of = c.before.before.before.before.before.before.before in
    let own : Own ws n c.width_of-2.result c.cut_hi-hi.result.0 c.cut_lo-lo.result.0 c.set_of.result =
    record { width_is = c.width_of-2.ensures.0; x-is = c.cut_hi-hi.ensures; y-is = c.cut_lo-lo.ensures; set_is = c.set_of.ensures.0 } in
    extract-at ws n own (only (one v)) c.if-hi-lo.false c.if-width_of-hi.false (wide v)
    (set_before ws n (operand-is (one v)) c.if-n-rest.false c.set_of-2.ensures.0)

pub extract_ok_spec : {M : Type 1} → statement M
extract_ok_spec =
    tie.close
    (tie.spec
    cut-hi-requires
    cut-lo-requires
    operand-word-requires
    returns
    returns-2
    width-of-requires
    returns-3
    width-of-requires-2
    add-result
    set-of-requires
    set-of-requires-2
    returns-4)
