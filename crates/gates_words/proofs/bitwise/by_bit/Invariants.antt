-- `by_bit` makes the gate of each two bits: its loop keeps the bits so far.
use Rattle.std.proofs.Common.{◌*◌}
use Rattle.gates_words.specs.Number.{number}
use Rattle.gates_words.specs.Words.{Writes}
use Rattle.gates_words.specs.Bitwise.{bits_of}
use Rattle.gates_words.proofs.bitwise.by_bit.Given as goal

abbrev pub invariant-loop-i : goal.invariant-loop-i
invariant-loop-i l =
    Writes l.fn.graph l.count l.fn.bits l.graph l.all l.bits l.out l.i (3 * l.i)
    (λ start. bits_of l.kind (number start l.fn.graph l.fn.bits l.a l.i) (number start l.fn.graph l.fn.bits l.b l.i))
