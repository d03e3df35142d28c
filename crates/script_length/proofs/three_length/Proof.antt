-- `three_length` gives the length of (ite a b c).
use native.Mathlib.Omega.{arith}
use Rattle.script_length.proofs.Sizes.{size-3}
use Rattle.script_meaning.specs.Script.{name_of}
use borrow.Author.Rules.{rules}
use Rattle.script_length.proofs.three_length.Statement.{statement}
use Rattle.script_length.proofs.three_length.Tie as tie

name-length-requires : tie.Need-name_length-requires
name-length-requires c κs = search rules

name-length-requires-2 : tie.Need-name_length-requires-2
name-length-requires-2 c κs = search rules

add-result : tie.Need-overflow_add-result
add-result c = search rules

name-length-requires-3 : tie.Need-name_length-requires-3
name-length-requires-3 c κs = search rules

add-result-2 : tie.Need-overflow_add-result-2
add-result-2 c = search rules

add-result-3 : tie.Need-overflow_add-result-3
add-result-3 c = search rules

returns : tie.Need-returns
returns c =
    let at-name-length2 = c in
    let at-name-length = c in
    let at-args = c in
    let a = at-args.args in (
      omega (
        arith,
        c.name_length-3.ensures.0,
        at-name-length2.name_length-2.ensures.0,
        at-name-length.name_length.ensures.0,
        size-3 (name_of a.p.now
            a.a.0) (name_of a.p.now a.b.0) (name_of a.p.now a.c.0),
      ),
      omega
          (arith, c.name_length-3.ensures.1, at-name-length2.name_length-2.ensures.1, at-name-length.name_length.ensures.1),
    )

pub three_length_spec : {M : Type 1} → statement M
three_length_spec =
    tie.close
    (tie.spec
    name-length-requires
    name-length-requires-2
    add-result
    name-length-requires-3
    add-result-2
    add-result-3
    returns)
