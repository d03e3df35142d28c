-- `bv` meets its contract: the words of an operator's node, and its term.
use Rattle.pool_nodes.proofs.Nodes.{bv-built}
use borrow.Author.Rules.{rules}
use Rattle.pool_nodes.proofs.bv.Statement.{statement}
use Rattle.pool_nodes.proofs.bv.Tie as tie

bv-code-requires : tie.Need-bv_code-requires
bv-code-requires c κs = search rules

width-requires : tie.Need-width-requires
width-requires c κs = search rules

union-requires : tie.Need-union-requires
union-requires c κs = search rules

kind-word-requires : tie.Need-kind_word-w0-requires
kind-word-requires c κs = search rules

operands-word-requires : tie.Need-operands_word-requires
operands-word-requires c κs = search rules

push-requires : tie.Need-push-requires
push-requires c κs = search rules

same_length : tie.Need-shape_of-pool
same_length c = search rules

returns : tie.Need-returns
returns c =
    let l-push = c in
    let l-operands-word = c in
    let l-kind-word = c in
    let l-union = c in
    let l-width = c in
    let l-bv-code = c in
    let st = c in
    bv-built st.requires.0 st.requires.1.0 st.requires.1.1 l-bv-code.bv_code.ensures.0 l-width.width.ensures.0 l-union.union.ensures.0 l-kind-word.kind_word-w0.ensures
    l-operands-word.operands_word.ensures l-push.push.ensures

pub bv_spec : {M : Type 1} → statement M
bv_spec =
    tie.close
    (tie.spec
    bv-code-requires
    width-requires
    union-requires
    kind-word-requires
    operands-word-requires
    push-requires
    same_length
    returns)
