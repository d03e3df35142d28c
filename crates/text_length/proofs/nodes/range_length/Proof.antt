-- `text_length::nodes::range_length` meets its contract: brackets, a colon and two numbers.
use mathlib.Core.Path.{refl}
use Prim.Native.Nat.{◌<◌}
use native.Mathlib.Omega.{arith}
use Rattle.pool.specs.Node.{word_at}
use Rattle.text_parts.proofs.Operands.{range_small}
use Rattle.text_length.proofs.Sizes.{about-extract}
use borrow.Author.Rules.{rules}
use Rattle.text_length.proofs.nodes.range_length.Statement.{statement}
use Rattle.text_length.proofs.nodes.range_length.Tie as tie

range : (c : tie.After-cut_hi-hi) → let a = c.args in (word_at a.p.now a.n.0 2 < 1000) × (word_at a.p.now a.n.0 3 < 1000)
range c = let s = c in range_small s.args.p.now s.args.n.0 s.requires.0 _ refl s.requires.1

cut-hi-requires : tie.Need-cut_hi-hi-requires
cut-hi-requires c κs = search rules

cut-lo-requires : tie.Need-cut_lo-lo-requires
cut-lo-requires c κs = search rules

decimal-length-requires : tie.Need-decimal_length-requires
decimal-length-requires c κs = let hi = c in rw hi.cut_hi-hi.ensures (range c.before).0

decimal-length-requires-2 : tie.Need-decimal_length-requires-2
decimal-length-requires-2 c κs = let lo = c in rw lo.cut_lo-lo.ensures (range c.before.before).1

add-result : tie.Need-overflow_add-result
add-result c = search rules

add-result-2 : tie.Need-overflow_add-result-2
add-result-2 c = search rules

returns : tie.Need-returns
returns c =
    let d = c in
    let lo = c in
    let hi = c in
    let s = c in
    let e = about-extract s.args.p.now s.args.n.0 s.requires.0 _ refl s.requires.1 in
    let x = rw hi.cut_hi-hi.ensures at d.decimal_length.ensures.0 in
    let y = rw lo.cut_lo-lo.ensures at c.decimal_length-2.ensures.0 in
    (omega (arith, e, x, y), omega (arith, d.decimal_length.ensures.1, c.decimal_length-2.ensures.1))

pub range_length_spec : {M : Type 1} → statement M
range_length_spec =
    tie.close
    (tie.spec
    cut-hi-requires
    cut-lo-requires
    decimal-length-requires
    decimal-length-requires-2
    add-result
    add-result-2
    returns)
