-- `gates_in` adds the gates of a node a turn.
use Rattle.std.proofs.Common.{◌≡◌, ◌*◌, ◌≤◌}
use Rattle.gates_pool.specs.Gates.{gates_in}
use Rattle.gates_pool.proofs.room.gates_in.Given as goal

abbrev pub invariant-loop-n : goal.invariant-loop-n
invariant-loop-n l = record { sum : l.all ≡ gates_in l.pool l.n; few : l.all ≤ 166410 * l.n }
