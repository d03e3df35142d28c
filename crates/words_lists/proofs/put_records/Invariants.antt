use mathlib.Core.List.{List}
use Prim.Native.Nat.{ℕ}
use Rattle.text_digits.specs.Writing.{Wrote}
use Rattle.text_series.specs.Series.{up_to}
use Rattle.words_encoding.specs.Decode.{decode}
use Rattle.words_lists.specs.Words.{word_at, flat}
use Rattle.words_lists.proofs.put_records.Given as goal

abbrev pub rows : List ℕ → ℕ → List ℕ
rows bs j = flat (decode (word_at bs j))

-- the records of the words so far are written
abbrev pub invariant-loop-j : goal.invariant-loop-j
invariant-loop-j l = Wrote l.initial.records 0 (up_to l.j (rows l.bytes)) l.end l.records
