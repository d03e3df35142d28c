-- `var` meets its contract: the words of a Var, whose set is its own register, and its term.
use lib.Pow.{pow-lt}
use Rattle.facts.proofs.Numbers.{shifted}
use native.Mathlib.Omega.{arith}
use Rattle.pool_nodes.proofs.Nodes.{var-built}
use borrow.Author.Rules.{rules}
use Rattle.pool_nodes.proofs.var.Statement.{statement}
use Rattle.pool_nodes.proofs.var.Tie as tie

shl-kind-word : tie.Need-overflow_shl-register
shl-kind-word c = search rules

push-requires : tie.Need-push-requires
push-requires c κs = search rules

same_length : tie.Need-shape_of-pool
same_length c = search rules

kind-word-requires : tie.Need-kind_word-requires
kind-word-requires c κs =
    let st = c in
    (omega arith, omega arith, rw (shifted st.args.register (omega (arith, st.requires.1.1))) (pow-lt {i = st.args.register} {j = 32} st.requires.1.1))

returns : tie.Need-returns
returns c =
    let l-push = c in
    let l-kind-word = c in
    let st = c in
    var-built st.requires.0 st.requires.1.0 (shifted st.args.register (omega (arith, st.requires.1.1))) l-kind-word.kind_word.ensures l-push.push.ensures

pub var_spec : {M : Type 1} → statement M
var_spec =
    tie.close
    (tie.spec
    shl-kind-word
    kind-word-requires
    push-requires
    same_length
    returns)
