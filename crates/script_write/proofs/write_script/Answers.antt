-- `write_script` meets its contract: past the refusals the pool and both nodes are good, and the script fits the buffer.
use mathlib.Core.Path.{sym}
use native.Mathlib.Omega.{arith}
use Rattle.pool_check.proofs.Passed.{few, below}
use Rattle.script_length.proofs.Answers.{good, all_named}
use Rattle.script_write.proofs.Answers.{fits, written}
use Rattle.script_write.proofs.write_script.Goals as goal

pub measure-size-requires : goal.measure-size-requires
measure-size-requires c =
    let a = c.args in
    let ws = a.pool.now in
    let g = good ws a.count a.a a.b 0 (sym c.in_ok-script_number.ensures) in
    (all_named ws a.count g.pool, few ws a.count g.pool, below ws a.count a.a 128 g.first, below ws a.count a.b 128 g.second)

pub put_script-requires-clause-all_ready : goal.put_script-requires-clause-all_ready
put_script-requires-clause-all_ready c =
    let a = c.args in
    let ws = a.pool.now in
    let g = good ws a.count a.a a.b 0 (sym c.in_ok-script_number.ensures) in
    let named = all_named ws a.count g.pool in
    let x = named a.a (below ws a.count a.a 128 g.first) in
    let y = named a.b (below ws a.count a.b 128 g.second) in
    ((λ m l. (named m l).ready), x.ready.inside, y.ready.inside)

pub returns : goal.returns
returns c =
    let a = c.args in
    let g = good a.pool.now a.count a.a a.b 0 (sym c.in_ok-script_number.ensures) in
    written a.pool.now a.count a.a a.b (fits a.pool.now a.count a.a a.b _ g (omega arith)) (omega arith) c.measure-size.ensures c.put_script.ensures
