-- `compare` meets its contract: the words of a comparison's node, and its term.
use Rattle.pool_nodes.proofs.Nodes.{compare-built}
use borrow.Author.Rules.{rules}
use Rattle.pool_nodes.proofs.compare.Statement.{statement}
use Rattle.pool_nodes.proofs.compare.Tie as tie

compare-code-requires : tie.Need-compare_code-requires
compare-code-requires c κs = search rules

union-requires : tie.Need-union-requires
union-requires c κs = search rules

kind-word-requires : tie.Need-kind_word-w0-requires
kind-word-requires c κs = search rules

operands-word-requires : tie.Need-operands_word-requires
operands-word-requires c κs = search rules

push-requires : tie.Need-push-requires
push-requires c κs = search rules

same_length : tie.Need-shape_of-pool
same_length c = search rules

returns : tie.Need-returns
returns c =
    let l-push = c in
    let l-operands-word = c in
    let l-kind-word = c in
    let l-union = c in
    let l-compare-code = c in
    let st = c in
    compare-built st.requires.0 st.requires.1.0 st.requires.1.1 l-compare-code.compare_code.ensures.0 l-union.union.ensures.0 l-kind-word.kind_word-w0.ensures
    l-operands-word.operands_word.ensures l-push.push.ensures

pub compare_spec : {M : Type 1} → statement M
compare_spec =
    tie.close
    (tie.spec
    compare-code-requires
    union-requires
    kind-word-requires
    operands-word-requires
    push-requires
    same_length
    returns)
