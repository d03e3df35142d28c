-- `text_length::nodes::extension_length` meets its contract: a name, brackets, a comma and the width.
use mathlib.Core.Path.{refl}
use native.Mathlib.Omega.{arith}
use Rattle.text_parts.proofs.Operands.{width_small}
use Rattle.text_length.proofs.Sizes.{about-extend}
use borrow.Author.Rules.{rules}
use Rattle.text_length.proofs.nodes.extension_length.Statement.{statement}
use Rattle.text_length.proofs.nodes.extension_length.Tie as tie

width-of-requires : tie.Need-width_of-requires
width-of-requires c κs = search rules

decimal-length-requires : tie.Need-decimal_length-requires
decimal-length-requires c κs =
    let s = c in
    rw c.width_of.ensures.0 (width_small s.args.p.now s.args.n.0 s.requires.0 _ refl)

add-result : tie.Need-overflow_add-result
add-result c = search rules

returns : tie.Need-returns
returns c =
    let w = c in
    let s = c in
    let e = about-extend s.args.p.now s.args.n.0 s.requires.0 _ refl s.requires.1 in
    let x = rw w.width_of.ensures.0 at c.decimal_length.ensures.0 in
    (omega (arith, e, x), omega (arith, c.decimal_length.ensures.1))

pub extension_length_spec : {M : Type 1} → statement M
extension_length_spec =
    tie.close (tie.spec width-of-requires decimal-length-requires add-result returns)
