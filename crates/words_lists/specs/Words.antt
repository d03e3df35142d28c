-- Lists of A64 words (document 02, S-7): little endian bytes, and records as flat numbers, six each.
use Rattle.std.specs.Prelude.{Bool, true, false, List, [], ◌∷◌, ◌≡◌, ℕ, ◌+◌, ◌*◌, ◌/◌, ◌%◌, ◌<◌, leb, eqb, length, get_or, Option, Some, None}
use Rattle.facts.specs.Refuse.{by_number, list_by, unless}
use Rattle.neon.specs.declared.Instruction.{Instruction}
use Rattle.neon.specs.Refusal.{Refusal, refusal, first_of, first_refusal, PassedTo, records_refusal, Legal}
use Rattle.words_encoding.specs.Decode.{decode}
use Rattle.words_encoding.specs.Word.{encode}
use Rattle.block_record_check.specs.Record.{record_at}
use Rattle.block_check.specs.declared.ListAnswer.{ListAnswer}
use Rattle.block_check.specs.Records.{records_of}
use Rattle.line_records.specs.Line.{line}
use Rattle.text_series.specs.Series.{up_to}

-- word j, its low byte first
abbrev pub word_at : List ℕ → ℕ → ℕ
word_at bs j = get_or bs (4 * j) 0 + 256 * get_or bs (4 * j + 1) 0 + 65536 * get_or bs (4 * j + 2) 0 + 16777216 * get_or bs (4 * j + 3) 0

abbrev pub whole_words : List ℕ → ℕ
whole_words bs = length bs / 4

abbrev pub is_record : Option Instruction → Bool
is_record (Some c) = true
is_record None = false

-- a record as six numbers
abbrev pub numbers : Instruction → List ℕ
numbers c = c.operation ∷ c.arrangement ∷ c.i ∷ c.d ∷ c.n ∷ c.m ∷ []

abbrev pub flat : Option Instruction → List ℕ
flat (Some c) = numbers c
flat None = []

-- a record as a line of columns
abbrev pub listed : Option Instruction → List ℕ
listed (Some c) = line c
listed None = []

-- word j encodes a legal form
abbrev pub is_legal_word : List ℕ → ℕ → Bool
is_legal_word bs j = is_record (decode (word_at bs j))

-- 12 and the position of the first whole word that encodes no legal form
abbrev pub words_refusal : List ℕ → Refusal
words_refusal bs = first_refusal (is_legal_word bs) 12 (whole_words bs) 0

-- a broken last word is such a word; then 9 if the lent list is too short
unfoldable pub read_refusal : List ℕ → (room : ℕ) → Refusal
read_refusal bs room =
    first_of (words_refusal bs)
    (first_of (refusal (unless (eqb (length bs % 4) 0) 12 0) (whole_words bs)) (refusal (unless (leb (6 * whole_words bs) room) 9 0) 0))

-- the records of all words
unfoldable pub records_in : List ℕ → List ℕ
records_in bs = up_to (whole_words bs) λ j. flat (decode (word_at bs j))

-- words were read
pub record WordsRead (bs old : List ℕ) (r : ListAnswer) (new : List ℕ) : Type 0 where
  pub number_is : r.number ≡ (read_refusal bs (length old)).number
  pub position_is : r.position ≡ (read_refusal bs (length old)).position
  pub count_is : r.count ≡ by_number (read_refusal bs (length old)).number (whole_words bs)
  pub list_is : new ≡ list_by (read_refusal bs (length old)).number (records_in bs) old

-- the first r whole words encode legal forms, and word r, if there is one, does not
abbrev pub Good : List ℕ → ℕ → Type 0
Good bs r = PassedTo (is_legal_word bs) (whole_words bs) r

-- ---- writing

-- the bytes of a word, the low one first
abbrev pub word_bytes : ℕ → List ℕ
word_bytes w = w % 256 ∷ w / 256 % 256 ∷ w / 65536 % 256 ∷ w / 16777216 % 256 ∷ []

-- 2, 3, 4 or 7 for the first bad record, with its position; then 9 if the lent bytes are too few
unfoldable pub write_refusal : List ℕ → (room : ℕ) → Refusal
write_refusal fs room = first_of (records_refusal 0 (records_of fs)) (refusal (unless (leb (4 * (length fs / 6)) room) 9 0) 0)

-- the words of all whole records
unfoldable pub words_in : List ℕ → List ℕ
words_in fs = up_to (length fs / 6) λ j. word_bytes (encode (record_at fs j))

-- records were written as words
pub record WordsWritten (fs old : List ℕ) (r : ListAnswer) (new : List ℕ) : Type 0 where
  pub number_is : r.number ≡ (write_refusal fs (length old)).number
  pub position_is : r.position ≡ (write_refusal fs (length old)).position
  pub count_is : r.count ≡ by_number (write_refusal fs (length old)).number (length fs / 6)
  pub list_is : new ≡ list_by (write_refusal fs (length old)).number (words_in fs) old

-- every whole record is legal
abbrev pub AllGood : List ℕ → Type 0
AllGood fs = (j : ℕ) → j < length fs / 6 → Legal (record_at fs j)
