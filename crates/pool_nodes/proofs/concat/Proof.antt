-- `concat` meets its contract: the words of a Concat, as wide as both operands, and its term.
use Rattle.pool_nodes.proofs.Nodes.{concat-built}
use borrow.Author.Rules.{rules}
use Rattle.pool_nodes.proofs.concat.Statement.{statement}
use Rattle.pool_nodes.proofs.concat.Tie as tie

width-requires : tie.Need-width-requires
width-requires c κs = search rules

width-requires-2 : tie.Need-width-requires-2
width-requires-2 c κs = search rules

add-bits : tie.Need-overflow_add-bits
add-bits c = search rules

union-requires : tie.Need-union-requires
union-requires c κs = search rules

kind-word-requires : tie.Need-kind_word-w0-requires
kind-word-requires c κs = search rules

operands-word-requires : tie.Need-operands_word-requires
operands-word-requires c κs = search rules

push-requires : tie.Need-push-requires
push-requires c κs = search rules

same_length : tie.Need-shape_of-pool
same_length c = search rules

returns : tie.Need-returns
returns c =
    let l-push = c in
    let l-operands-word = c in
    let l-kind-word = c in
    let l-union = c in
    let l-width2 = c in
    let l-width = c in
    let st = c in
    concat-built st.requires.0 st.requires.1.0 st.requires.1.1 l-width.width.ensures.0 l-width2.width-2.ensures.0 l-union.union.ensures.0 l-kind-word.kind_word-w0.ensures
    l-operands-word.operands_word.ensures l-push.push.ensures

pub concat_spec : {M : Type 1} → statement M
concat_spec =
    tie.close
    (tie.spec
    width-requires
    width-requires-2
    add-bits
    union-requires
    kind-word-requires
    operands-word-requires
    push-requires
    same_length
    returns)
