-- `mux` chooses each bit: its loop keeps the bits so far.
use Rattle.std.proofs.Common.{◌*◌}
use Rattle.gates.specs.Graph.{truth}
use Rattle.gates_words.specs.Number.{number}
use Rattle.gates_words.specs.Words.{Writes}
use Rattle.gates_words.specs.Bitwise.{ite_of}
use Rattle.gates_words.proofs.bitwise.mux.Given as goal

abbrev pub invariant-loop-i : goal.invariant-loop-i
invariant-loop-i l =
    Writes l.fn.graph l.count l.fn.bits l.graph l.all l.bits l.out l.i (3 * l.i)
    (λ start. ite_of (truth start l.fn.graph l.c) (number start l.fn.graph l.fn.bits l.a l.i) (number start l.fn.graph l.fn.bits l.b l.i))
