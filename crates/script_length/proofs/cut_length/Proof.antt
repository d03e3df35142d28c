-- `cut_length` gives the length of ((_ extract hi lo) a).
use native.Mathlib.Omega.{arith}
use Rattle.script_length.proofs.Sizes.{size-cut}
use Rattle.script_meaning.specs.Script.{name_of}
use borrow.Author.Rules.{rules}
use Rattle.script_length.proofs.cut_length.Statement.{statement}
use Rattle.script_length.proofs.cut_length.Tie as tie

number-length-requires : tie.Need-number_length-requires
number-length-requires c κs = search rules

number-length-requires-2 : tie.Need-number_length-requires-2
number-length-requires-2 c κs = search rules

add-result : tie.Need-overflow_add-result
add-result c = search rules

name-length-requires : tie.Need-name_length-requires
name-length-requires c κs = search rules

add-result-2 : tie.Need-overflow_add-result-2
add-result-2 c = search rules

add-result-3 : tie.Need-overflow_add-result-3
add-result-3 c = search rules

returns : tie.Need-returns
returns c =
    let at-number-length2 = c in
    let at-number-length = c in
    let at-args = c in
    let a = at-args.args in (
      omega (
        arith,
        c.name_length.ensures.0,
        at-number-length2.number_length-2.ensures.0,
        at-number-length.number_length.ensures.0,
        size-cut (name_of a.p.now
            a.a.0) a.hi.0 a.lo.0,
      ),
      omega (arith, c.name_length.ensures.1, at-number-length2.number_length-2.ensures.1, at-number-length.number_length.ensures.1),
    )

pub cut_length_spec : {M : Type 1} → statement M
cut_length_spec =
    tie.close
    (tie.spec
    number-length-requires
    number-length-requires-2
    add-result
    name-length-requires
    add-result-2
    add-result-3
    returns)
