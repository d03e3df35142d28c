-- `canonise` meets its contract: 1, 5, and else what `canonise_root` answers.
use Rattle.std.proofs.Common.{sym, arith}
use Rattle.std.proofs.lemmas.Result.{err_from_is_err_and}
use Rattle.facts.proofs.Answers.{code-positive}
use Rattle.pool_check.proofs.Number.{accepted}
use Rattle.canonical_write.proofs.Arrays.{passed, bad-node, root-answered}
use Rattle.canonical_write.proofs.canonise.Goals as goal

pub returns-in_err-node_number : goal.returns-in_err-node_number
returns-in_err-node_number c =
    let a = c.args in
    let p = err_from_is_err_and c.from_residual.result c.from_residual.ensures.1 in
    let q = code-positive c.in_err-node_number.field-0.0 in
    rw (p.1, p.2) (bad-node a.pool.now a.count a.root a.out.now c.in_err-node_number.ensures (omega arith))

pub canonise_root-requires : goal.canonise_root-requires
canonise_root-requires c =
    let a = c.args in
    let k = accepted a.pool.now a.count a.root 0 (sym c.in_ok-node_number.ensures) in
    passed a.pool.now a.count a.root k.0 k.1

pub returns : goal.returns
returns c =
    let a = c.args in
    let k = accepted a.pool.now a.count a.root 0 (sym c.in_ok-node_number.ensures) in
    root-answered a.pool.now a.count a.root a.out.now k.0 k.1 c.canonise_root.ensures
