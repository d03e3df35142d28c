-- `write_lane_script` meets its contract: past the refusals the pool, both nodes and the cut are good, and the script fits the buffer.
use mathlib.Core.Path.{sym}
use native.Mathlib.Omega.{arith}
use Rattle.pool_check.proofs.Passed.{few, below}
use Rattle.script_length.proofs.Answers.{all_named}
use Rattle.script_lane_length.proofs.Answers.{fine}
use Rattle.script_lane_write.proofs.Answers.{fits, written}
use Rattle.script_lane_write.proofs.write_lane_script.Goals as goal

pub lane_measure-size-requires : goal.lane_measure-size-requires
lane_measure-size-requires c =
    let a = c.args in
    let ws = a.pool.now in
    let f = fine ws a.count a.a a.b a.hi a.lo 0 (sym c.in_ok-lane_number.ensures) in
    let g = f.nodes in (
      all_named ws a.count g.pool,
      few ws a.count g.pool,
      below ws a.count a.a 128 g.first,
      below ws a.count a.b 128 g.second,
      omega (arith, f.under),
      omega (arith, f.order, f.under),
    )

pub put_lane_script-requires-clause-all_ready : goal.put_lane_script-requires-clause-all_ready
put_lane_script-requires-clause-all_ready c =
    let a = c.args in
    let ws = a.pool.now in
    let g = (fine ws a.count a.a a.b a.hi a.lo 0 (sym c.in_ok-lane_number.ensures)).nodes in
    let named = all_named ws a.count g.pool in
    let x = named a.a (below ws a.count a.a 128 g.first) in
    let y = named a.b (below ws a.count a.b 128 g.second) in
    ((λ m l. (named m l).ready), x.ready.inside, y.ready.inside)

pub returns : goal.returns
returns c =
    let a = c.args in
    let f = fine a.pool.now a.count a.a a.b a.hi a.lo 0 (sym c.in_ok-lane_number.ensures) in
    written a.pool.now a.count a.a a.b a.hi a.lo (fits a.pool.now a.count a.a a.b a.hi a.lo _ f (omega arith)) (omega arith)
    c.lane_measure-size.ensures c.put_lane_script.ensures
