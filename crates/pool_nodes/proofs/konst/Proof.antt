-- `konst` meets its contract: the words of a Const, and its term.
use Rattle.pool_nodes.proofs.Nodes.{const-built}
use borrow.Author.Rules.{rules}
use Rattle.pool_nodes.proofs.konst.Statement.{statement}
use Rattle.pool_nodes.proofs.konst.Tie as tie

kind-word-requires : tie.Need-kind_word-requires
kind-word-requires c κs = search rules

push-requires : tie.Need-push-requires
push-requires c κs = search rules

same_length : tie.Need-shape_of-pool
same_length c = search rules

returns : tie.Need-returns
returns c =
    let l-push = c in
    let l-kind-word = c in
    let st = c in
    const-built st.requires.0 st.requires.1 l-kind-word.kind_word.ensures l-push.push.ensures

pub konst_spec : {M : Type 1} → statement M
konst_spec = tie.close (tie.spec kind-word-requires push-requires same_length returns)
