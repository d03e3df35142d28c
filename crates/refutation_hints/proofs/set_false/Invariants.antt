-- set_false: the words before the loop's place are marked, and all of them are literals of the graph
use Rattle.std.proofs.Common.{◌≡◌, ℕ, ◌||◌, drop}
use Rattle.refutation.specs.Refutation.{among, all_below}
use Rattle.refutation_hints.specs.Memory.{marked, AtMost}
use Rattle.refutation_hints.proofs.set_false.Given as goal

abbrev pub invariant-loop-word : goal.invariant-loop-word
invariant-loop-word l = record {
  at_most : AtMost l.k l.marks;
  below : all_below l.limit (drop l.word-index l.word-items) ≡ all_below l.limit l.word-items;
  marks_are : (x : ℕ) → (among (drop l.word-index l.word-items) x || marked l.marks l.k x) ≡ (among l.word-items x || marked l.initial.marks l.k x);
}
