-- `text_length::nodes::leaf_length` meets its contract: the characters of a Var and of a Const.
use native.Mathlib.Omega.{arith}
use Rattle.text_parts.proofs.Operands.{is-const, register-small, width_small}
use Rattle.text_length.proofs.Sizes.{size-var, size-const}
use borrow.Author.Rules.{rules}
use Rattle.text_length.proofs.nodes.leaf_length.Statement.{statement}
use Rattle.text_length.proofs.nodes.leaf_length.Tie as tie

-- ---- the entry, of a Var and of a Const

-- ---- needs

low-requires : tie.Need-low-requires
low-requires c κs = search rules

decimal-length-requires : tie.Need-decimal_length-requires
decimal-length-requires c κs =
    let s = c in
    rw c.low.ensures (register-small s.args.p.now s.args.n.0 s.requires.0 s.args.k s.requires.1 c.if-k-eq-VAR.true)

add-result : tie.Need-overflow_add-result
add-result c = search rules

returns : tie.Need-returns-then-k-eq-VAR
returns c =
    let l = c in
    let i = c in
    let s = c in
    omega (arith, size-var s.args.p.now s.args.n.0 s.requires.0 s.args.k s.requires.1 i.if-k-eq-VAR.true, rw l.low.ensures at c.decimal_length.ensures.0)

width-of-requires : tie.Need-width_of-requires
width-of-requires c κs = search rules

decimal-length-requires-2 : tie.Need-decimal_length-requires-2
decimal-length-requires-2 c κs =
    let s = c in
    rw c.width_of.ensures.0 (width_small s.args.p.now s.args.n.0 s.requires.0 s.args.k s.requires.1)

add-result-2 : tie.Need-overflow_add-result-2
add-result-2 c = search rules

low-requires-2 : tie.Need-low-requires-2
low-requires-2 c κs = search rules

high-requires : tie.Need-high-requires
high-requires c κs = search rules

hex-length-requires : tie.Need-hex_length-requires
hex-length-requires c κs = search rules

add-result-3 : tie.Need-overflow_add-result-3
add-result-3 c = search rules

returns-2 : tie.Need-returns
returns-2 c =
    let h = c in
    let l = c in
    let d = c in
    let w = c in
    let i = c in
    let s = c in
    let k = is-const s.args.p.now s.args.n.0 s.requires.0 s.args.k s.requires.1 s.requires.2 i.if-k-eq-VAR.false in
    omega (
      arith,
      size-const s.args.p.now s.args.n.0 s.requires.0 s.args.k s.requires.1 k,
      rw w.width_of.ensures.0 at d.decimal_length-2.ensures.0,
      rw (l.low-2.ensures, h.high.ensures) at c.hex_length.ensures.0,
    )

pub leaf_length_spec : {M : Type 1} → statement M
leaf_length_spec =
    tie.close
    (tie.spec
    low-requires
    decimal-length-requires
    add-result
    returns
    width-of-requires
    decimal-length-requires-2
    add-result-2
    low-requires-2
    high-requires
    hex-length-requires
    add-result-3
    returns-2)
