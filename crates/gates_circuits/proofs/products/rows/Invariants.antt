-- `rows`: a row a turn, for the next bit of b.
use Rattle.std.proofs.Common.{◌*◌}
use Rattle.gates_circuits.proofs.Rows.{RowsTo}
use Rattle.gates_circuits.proofs.products.rows.Given as goal

abbrev pub invariant-loop-j : goal.invariant-loop-j
invariant-loop-j l = RowsTo l.fn.graph l.count l.fn.bits l.graph l.all l.bits l.a l.b l.out l.w l.j (10 * l.w * l.j)
