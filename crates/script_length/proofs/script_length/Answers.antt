-- `script_length` meets its contract: past the refusals the pool and both nodes are good.
use mathlib.Core.Path.{sym}
use Rattle.pool_check.proofs.Passed.{few, below}
use Rattle.script_length.proofs.Answers.{good, all_named, measured}
use Rattle.script_length.proofs.script_length.Goals as goal

pub measure-requires : goal.measure-requires
measure-requires c =
    let a = c.args in
    let ws = a.pool.now in
    let g = good ws a.count a.a a.b 0 (sym c.in_ok-script_number.ensures) in
    (all_named ws a.count g.pool, few ws a.count g.pool, below ws a.count a.a 128 g.first, below ws a.count a.b 128 g.second)

pub returns : goal.returns
returns c = measured c.args.pool.now c.args.count c.args.a c.args.b (sym c.in_ok-script_number.ensures) c.measure.ensures
