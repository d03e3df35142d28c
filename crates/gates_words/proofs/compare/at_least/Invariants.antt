-- `at_least` keeps whether the number of the bits of a so far is at least that of the bits of b.
use Rattle.std.proofs.Common.{◌*◌, not, ltb}
use Rattle.gates.specs.Grow.{Builds}
use Rattle.gates_words.specs.Number.{number}
use Rattle.gates_words.proofs.compare.at_least.Given as goal

abbrev pub invariant-loop-i : goal.invariant-loop-i
invariant-loop-i l =
    Builds l.fn.graph l.count l.graph l.carry.literal l.carry.count (5 * l.i)
    (λ start. not (ltb (number start l.fn.graph l.bits l.a l.i) (number start l.fn.graph l.bits l.b l.i)))
