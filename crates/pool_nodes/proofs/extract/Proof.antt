-- `extract` meets its contract: the words of an Extract of hi - lo + 1 bits, and its term.
use Rattle.pool_nodes.proofs.Nodes.{extract-built}
use borrow.Author.Rules.{rules}
use Rattle.pool_nodes.proofs.extract.Statement.{statement}
use Rattle.pool_nodes.proofs.extract.Tie as tie

sub-kind-word : tie.Need-overflow_sub-hi
sub-kind-word c = search rules

add-kind-word : tie.Need-overflow_add-hi
add-kind-word c = search rules

set-of-requires : tie.Need-set_of-requires
set-of-requires c κs = search rules

kind-word-requires : tie.Need-kind_word-w0-requires
kind-word-requires c κs = search rules

operands-word-requires : tie.Need-operands_word-requires
operands-word-requires c κs = search rules

push-requires : tie.Need-push-requires
push-requires c κs = search rules

same_length : tie.Need-shape_of-pool
same_length c = search rules

returns : tie.Need-returns
returns c =
    let l-push = c in
    let l-operands-word = c in
    let l-kind-word = c in
    let l-set-of = c in
    let st = c in
    extract-built st.requires.0 st.requires.1.0 st.requires.1.1 st.requires.1.2 l-set-of.set_of.ensures.0 l-kind-word.kind_word-w0.ensures l-operands-word.operands_word.ensures
    l-push.push.ensures

pub extract_spec : {M : Type 1} → statement M
extract_spec =
    tie.close
    (tie.spec
    sub-kind-word
    add-kind-word
    set-of-requires
    kind-word-requires
    operands-word-requires
    push-requires
    same_length
    returns)
