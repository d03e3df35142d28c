-- `sign_ext` meets its contract: the words of a SignExtend, and its term.
use Rattle.pool_nodes.proofs.Nodes.{sext-built}
use borrow.Author.Rules.{rules}
use Rattle.pool_nodes.proofs.sign_ext.Statement.{statement}
use Rattle.pool_nodes.proofs.sign_ext.Tie as tie

set-of-requires : tie.Need-set_of-requires
set-of-requires c κs = search rules

kind-word-requires : tie.Need-kind_word-w0-requires
kind-word-requires c κs = search rules

operands-word-requires : tie.Need-operands_word-requires
operands-word-requires c κs = search rules

push-requires : tie.Need-push-requires
push-requires c κs = search rules

same_length : tie.Need-shape_of-pool
same_length c = search rules

returns : tie.Need-returns
returns c =
    let l-push = c in
    let l-operands-word = c in
    let l-kind-word = c in
    let l-set-of = c in
    let st = c in
    sext-built st.requires.0 st.requires.1.0 st.requires.1.1 l-set-of.set_of.ensures.0 l-kind-word.kind_word-w0.ensures l-operands-word.operands_word.ensures l-push.push.ensures

pub sign_ext_spec : {M : Type 1} → statement M
sign_ext_spec =
    tie.close
    (tie.spec
    set-of-requires
    kind-word-requires
    operands-word-requires
    push-requires
    same_length
    returns)
