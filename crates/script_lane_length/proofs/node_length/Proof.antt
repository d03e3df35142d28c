-- `node_length` gives the length of a node's lines. Assumes nothing.
use mathlib.Core.Path.{refl, sym, ap, ◌∙◌}
use native.Mathlib.Omega.{arith}
use lib.ListN.{length}
use Rattle.script_text.proofs.Spelling.{above}
use Rattle.script_text.proofs.Nodes.{kind-above}
use Rattle.text_parts.proofs.Operands.{width_small}
use Rattle.script_lane_text.proofs.Spelling.{no_lines}
use Rattle.script_lane_length.proofs.Sizes.{size-lines}
use borrow.Author.Rules.{rules}
use Rattle.script_lane_length.proofs.node_length.Statement.{statement}
use Rattle.script_lane_length.proofs.node_length.Tie as tie

-- ---- places: the entry from where the kind is read, and where the node is known to be no Var

-- ---- needs

kind-of-requires : tie.Need-kind_of-k-requires
kind-of-requires c κs = search rules

returns : tie.Need-returns-then-k-eq-VAR
returns c =
    let a = c.args in
    let z = ap length (no_lines a.p.now a.n.0 (sym c.kind_of-k.ensures ∙ c.if-k-eq-VAR.true)) in
    (sym z, omega arith)

width-of-requires : tie.Need-width_of-w-requires
width-of-requires c κs = search rules

number-length-requires : tie.Need-number_length-name-requires
number-length-requires c κs = search rules

add-result : tie.Need-overflow_add-result
add-result c = search rules

sort-length-requires : tie.Need-sort_length-requires
sort-length-requires c κs =
    let w = c in
    let s = c in
    omega (arith, w.width_of-w.ensures.0, width_small s.args.p.now s.args.n.0 s.requires.ready _ refl)

add-result-2 : tie.Need-overflow_add-result-2
add-result-2 c = search rules

term-length-requires : tie.Need-term_length-requires
term-length-requires c κs =
    let v = c in
    let s = c in
    let e = v.kind_of-k.ensures in
    (s.requires, e, above _ 1 (kind-above s.args.p.now s.args.n.0 s.requires.ready _ e) v.if-k-eq-VAR.false)

add-result-3 : tie.Need-overflow_add-result-3
add-result-3 c = search rules

add-result-4 : tie.Need-overflow_add-result-4
add-result-4 c = search rules

returns-2 : tie.Need-returns
returns-2 c =
    let v = c in
    let a = v.args in
    let z = size-lines a.p.now a.n.0 _ _ v.kind_of-k.ensures v.if-k-eq-VAR.false c.width_of-w.ensures.0 in
    let t = c.term_length.ensures in
    let s = c.sort_length.ensures in
    let n = c.number_length-name.ensures in
    (omega (arith, z, t.0, s.0, n.0), omega (arith, t.1, s.1, n.1))

pub node_length_spec : {M : Type 1} → statement M
node_length_spec =
    tie.close
    (tie.spec
    kind-of-requires
    returns
    width-of-requires
    number-length-requires
    add-result
    sort-length-requires
    add-result-2
    term-length-requires
    add-result-3
    add-result-4
    returns-2)
