-- `stages_for`: the logarithm of the power of two at or above the width.
use Rattle.gates_circuits.proofs.Shifting.{reaches}
use Rattle.gates_circuits.proofs.shifts.stages_for.Goals as goal

pub returns : goal.returns
returns c =
    let p = c.next_power_of_two.ensures in
    let r = c.ilog2.ensures in
    reaches c.args.w _ p.power.0 c.ilog2.result p.power.1 p.lower_bound p.upper_bound r.power_le r.next_power_gt
