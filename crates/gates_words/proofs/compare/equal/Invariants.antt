-- `equal` keeps whether the bits so far are the same.
use Rattle.std.proofs.Common.{◌*◌, eqb}
use Rattle.gates.specs.Grow.{Builds}
use Rattle.gates_words.specs.Number.{number}
use Rattle.gates_words.proofs.compare.equal.Given as goal

abbrev pub invariant-loop-i : goal.invariant-loop-i
invariant-loop-i l =
    Builds l.fn.graph l.count l.graph l.same.literal l.same.count (4 * l.i)
    (λ start. eqb (number start l.fn.graph l.bits l.a l.i) (number start l.fn.graph l.bits l.b l.i))
