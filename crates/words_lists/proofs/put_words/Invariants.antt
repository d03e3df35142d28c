use mathlib.Core.List.{List}
use Prim.Native.Nat.{ℕ}
use Rattle.text_digits.specs.Writing.{Wrote}
use Rattle.text_series.specs.Series.{up_to}
use Rattle.block_record_check.specs.Record.{record_at}
use Rattle.words_encoding.specs.Word.{encode}
use Rattle.words_lists.specs.Words.{word_bytes}
use Rattle.words_lists.proofs.put_words.Given as goal

abbrev pub rows : List ℕ → ℕ → List ℕ
rows fs j = word_bytes (encode (record_at fs j))

-- the words of the records so far are written
abbrev pub invariant-loop-j : goal.invariant-loop-j
invariant-loop-j l = Wrote l.initial.bytes 0 (up_to l.j (rows l.records)) l.end l.bytes
