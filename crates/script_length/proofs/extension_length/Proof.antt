-- `extension_length` gives the length of ((_ f by) a), f the function of the kind.
use native.Mathlib.Omega.{arith}
use Rattle.script_length.proofs.Sizes.{size-extension}
use Rattle.script_meaning.specs.Script.{name_of, function_of}
use Rattle.pool.specs.Node.{kind_at}
use borrow.Author.Rules.{rules}
use Rattle.script_length.proofs.extension_length.Statement.{statement}
use Rattle.script_length.proofs.extension_length.Tie as tie

function-length-requires : tie.Need-function_length-requires
function-length-requires c κs = search rules

number-length-requires : tie.Need-number_length-requires
number-length-requires c κs = search rules

add-result : tie.Need-overflow_add-result
add-result c = search rules

name-length-requires : tie.Need-name_length-requires
name-length-requires c κs = search rules

add-result-2 : tie.Need-overflow_add-result-2
add-result-2 c = search rules

add-result-3 : tie.Need-overflow_add-result-3
add-result-3 c = search rules

returns : tie.Need-returns
returns c =
    let at-number-length = c in
    let at-function-length = c in
    let at-args = c in
    let a = at-args.args in (
      omega (
        arith,
        c.name_length.ensures.0,
        at-number-length.number_length.ensures.0,
        at-function-length.function_length.ensures.0,
        size-extension (function_of
            (kind_at a.k)) (name_of a.p.now a.a.0) a.by,
      ),
      omega
          (arith, c.name_length.ensures.1, at-number-length.number_length.ensures.1, at-function-length.function_length.ensures.1),
    )

pub extension_length_spec : {M : Type 1} → statement M
extension_length_spec =
    tie.close
    (tie.spec
    function-length-requires
    number-length-requires
    add-result
    name-length-requires
    add-result-2
    add-result-3
    returns)
