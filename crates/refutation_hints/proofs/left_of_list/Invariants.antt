-- left_of_list: the words before the loop's place are looked at
use Rattle.std.proofs.Common.{◌≡◌, true, drop, length}
use Rattle.refutation.specs.Refutation.{remains, all_below, listed}
use Rattle.refutation_hints.specs.Memory.{marked}
use Rattle.refutation_hints.proofs.left_of_list.Given as goal

abbrev pub invariant-loop-word : goal.invariant-loop-word
invariant-loop-word l = record {
  left_is : remains (marked l.marks l.k) l.left (drop l.word-index l.word-items) ≡ remains (marked l.marks l.k) 0 (listed (drop l.at l.words));
  below : all_below (length l.marks) (drop l.word-index l.word-items) ≡ true;
}
