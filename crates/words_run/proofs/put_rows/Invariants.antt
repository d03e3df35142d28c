use mathlib.Core.Path.{◌≡◌}
use Prim.Native.Nat.{◌+◌, ◌-◌, ◌≤◌}
use lib.ListN.{length}
use Rattle.text_digits.specs.Writing.{Wrote}
use Rattle.text_series.specs.Series.{up_to}
use Rattle.words_run.specs.Rows.{row}
use Rattle.words_run.proofs.put_rows.Given as goal

-- the rows of the words so far are written, and none where no word was passed
abbrev pub invariant-loop-next : goal.invariant-loop-next
invariant-loop-next l = record {
  wrote : Wrote l.initial.out 0 (up_to (l.next - l.from) (λ i. row l.refusals l.bytes (l.from + i))) l.output l.out;
  inside : l.output ≤ length l.out;
  none : l.next ≡ l.from → l.output ≡ 0;
  stays : l.count ≤ l.from → l.next ≡ l.from;
}
