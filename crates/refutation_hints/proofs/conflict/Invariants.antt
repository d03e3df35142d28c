-- conflict: the hints before the loop's place are passed, and what they set false is marked
use Rattle.std.proofs.Common.{◌≡◌, drop}
use Rattle.refutation.specs.Refutation as refutation
use Rattle.refutation_hints.specs.Memory.{marked, AtMost, clauses_to}
use Rattle.refutation_hints.proofs.conflict.Given as goal

abbrev pub invariant-loop-hint : goal.invariant-loop-hint
invariant-loop-hint l =
    let steps = clauses_to l.words l.starts l.l l.k in
    record {
      at_most : AtMost l.k l.marks;
      rest_is : refutation.conflict l.graph l.count steps (marked l.marks l.k) (drop l.hint-index l.hint-items)
          ≡ refutation.conflict l.graph l.count steps (marked l.initial.marks l.k) l.hint-items;
    }
