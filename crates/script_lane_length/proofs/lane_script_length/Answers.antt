-- `lane_script_length` meets its contract: past the refusals the pool, both nodes and the cut are good.
use mathlib.Core.Path.{sym}
use native.Mathlib.Omega.{arith}
use Rattle.pool_check.proofs.Passed.{few, below}
use Rattle.script_length.proofs.Answers.{all_named}
use Rattle.script_lane_length.proofs.Answers.{fine, measured}
use Rattle.script_lane_length.proofs.lane_script_length.Goals as goal

pub lane_measure-requires : goal.lane_measure-requires
lane_measure-requires c =
    let a = c.args in
    let ws = a.pool.now in
    let f = fine ws a.count a.a a.b a.hi a.lo 0 (sym c.in_ok-lane_number.ensures) in
    let g = f.nodes in (
      all_named ws a.count g.pool,
      few ws a.count g.pool,
      below ws a.count a.a 128 g.first,
      below ws a.count a.b 128 g.second,
      omega (arith, f.under),
      omega (arith, f.order, f.under),
    )

pub returns : goal.returns
returns c =
    let a = c.args in
    measured a.pool.now a.count a.a a.b a.hi a.lo (sym c.in_ok-lane_number.ensures) c.lane_measure.ensures
