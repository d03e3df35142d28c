-- `find` stays inside the table.
use Rattle.std.proofs.Common.{◌<◌, length}
use Rattle.gates_build.proofs.table.find.Given as goal

abbrev pub invariant-loop : goal.invariant-loop
invariant-loop l = l.slot < length l.table
