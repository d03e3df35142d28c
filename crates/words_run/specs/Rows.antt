-- The words of an input as rows of text (document 02, S-7): a word that encodes a legal form as its record's line of columns, another as its
-- refusal by 12, which no reader of columns takes.
use Rattle.std.specs.Prelude.{Bool, true, false, cond, List, [], ◌∷◌, ◌++◌, ℕ, ◌+◌, ◌*◌, ◌-◌, ◌/◌, ◌≤◌, ◌<◌, ltb, length}
use Rattle.terms.specs.Display.{bytes, decimal}
use Rattle.text_digits.specs.Writing.{Wrote}
use Rattle.text_series.specs.Series.{up_to}
use Rattle.run_registers.specs.Digits.{hex_digits}
use Rattle.words_encoding.specs.Decode.{decode}
use Rattle.words_lists.specs.Words.{word_at, is_record, listed}
use Rattle.words_run.specs.declared.Progress.{Progress}

-- the words, a broken last one among them
abbrev pub word_count : List ℕ → ℕ
word_count bs = (length bs + 3) / 4

-- ---- a refusal: the position and 12; then the word's eight digits, or how many bytes a broken last word has

abbrev pub name_text : (j : ℕ) → List ℕ
name_text j = bytes "words: word " ++ (decimal j ++ bytes ": 12, ")

abbrev pub foreign_text : (w : ℕ) → List ℕ
foreign_text w = bytes "none of our forms: " ++ (hex_digits 8 w ++ (10 ∷ []))

abbrev pub broken_text : (n : ℕ) → List ℕ
broken_text n = bytes "broken: bytes " ++ (decimal n ++ (10 ∷ []))

-- ---- rows

-- of word w at position j; among the refusals alone a legal word has none
abbrev pub word_row : (refusals : Bool) → (j w : ℕ) → List ℕ
word_row refusals j w = cond (is_record (decode w)) (cond refusals [] (listed (decode w))) (name_text j ++ foreign_text w)

-- of word j
unfoldable pub row : (refusals : Bool) → List ℕ → ℕ → List ℕ
row refusals bs j = cond (ltb (length bs - 4 * j) 4) (name_text j ++ broken_text (length bs - 4 * j)) (word_row refusals j (word_at bs j))

-- the rows of all words, and the refusals alone
abbrev pub listing : List ℕ → List ℕ
listing bs = up_to (word_count bs) (row false bs)

abbrev pub report : List ℕ → List ℕ
report bs = up_to (word_count bs) (row true bs)

abbrev pub row_room : ℕ
row_room = 80

-- rows were written from word `from` on. If there is room for one, one is written, and it stops only at the last word or if a row may have
-- no room
pub record Goes (refusals : Bool) (bs : List ℕ) (from : ℕ) (old : List ℕ) (r : Progress) (new : List ℕ) : Type 0 where
  pub after : from ≤ r.next
  pub inside : from ≤ word_count bs → r.next ≤ word_count bs
  pub wrote : Wrote old 0 (up_to (r.next - from) (λ i. row refusals bs (from + i))) r.output new
  pub output_in : r.output ≤ length new
  pub further : from < word_count bs → row_room ≤ length old → from < r.next
  pub stops : r.next < word_count bs → length old < r.output + row_room
