-- `stages`: a stage a turn, by twice as many places.
use Rattle.std.proofs.Common.{◌*◌}
use Rattle.gates_circuits.proofs.Shifting.{MovedTo}
use Rattle.gates_circuits.proofs.shifts.stages.Given as goal

abbrev pub invariant-loop-i : goal.invariant-loop-i
invariant-loop-i l = MovedTo l.fn.graph l.count l.fn.bits l.graph l.all l.bits l.left l.literal l.b l.out l.w l.i (3 * l.w * l.i)
