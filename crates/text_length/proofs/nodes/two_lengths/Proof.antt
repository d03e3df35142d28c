-- `text_length::nodes::two_lengths` meets its contract: two lengths of at most 2^32 have a sum.
use mathlib.Core.Path.{◌≡◌}
use native.Mathlib.Omega.{arith}
use lib.ListN.{get_or}
use Rattle.pool_fields.specs.Fields.{op_a, op_b}
use borrow.Author.Rules.{rules}
use Rattle.text_length.proofs.nodes.two_lengths.Statement.{statement}
use Rattle.text_length.proofs.nodes.two_lengths.Tie as tie

first-requires : tie.Need-first-requires
first-requires c κs = search rules

length-at-requires : tie.Need-length_at-requires
length-at-requires c κs = search rules

second-requires : tie.Need-second-requires
second-requires c κs = search rules

length-at-requires-2 : tie.Need-length_at-requires-2
length-at-requires-2 c κs = search rules

-- the two lengths
one : (c : tie.After-length_at-2) → let s = c in
    c.length_at.result ≡ get_or s.args.lengths.now (op_a s.args.p.now s.args.n.0) 0
one c = let l = c in rw l.first.ensures at l.length_at.ensures

two : (c : tie.After-length_at-2) → let s = c in
    c.length_at-2.result ≡ get_or s.args.lengths.now (op_b s.args.p.now s.args.n.0) 0
two c = rw c.second.ensures at c.length_at-2.ensures

add-result : tie.Need-overflow_add-result
add-result c =
    let s = c in
    omega (arith, one c, two c, s.requires.1.0.small, s.requires.1.1.small)

returns : tie.Need-returns
returns c = omega (arith, one c, two c)

pub two_lengths_spec : {M : Type 1} → statement M
two_lengths_spec =
    tie.close
    (tie.spec
    first-requires
    length-at-requires
    second-requires
    length-at-requires-2
    add-result
    returns)
