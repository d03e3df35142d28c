-- Going and returning, on lists: the words of records are read back as these, and the records of words are written back as these. Assumes nothing.
use mathlib.Core.Path.{◌≡◌, refl, sym, ap, ◌∙◌}
use mathlib.Core.Bool.{true, false≢true}
use mathlib.Core.List.{List, [], ◌∷◌}
use Prim.Native.Nat.{ℕ, zero, suc, ◌+◌, ◌*◌, ◌/◌, ◌%◌, ◌^◌, ◌≤◌, ◌<◌}
use native.Mathlib.Nat.{add-zero, add_assoc}
use native.Mathlib.Omega.{arith}
use lib.Dec.{eqb}
use lib.ListN.{length, get_or, take, drop}
use lib.Seq.{take_all}
use borrow.Author.Tests.{eq-eqb, eqb-true}
use Rattle.neon.specs.declared.Instruction.{Instruction}
use Rattle.facts.specs.Refuse.{unless}
use Rattle.facts.proofs.Tests.{passed}
use Rattle.neon.specs.Refusal.{Refusal, refusal, record_number, records_refusal, Legal}
use Rattle.neon.proofs.First.{first-zero, none-refused}
use Rattle.block_record_check.specs.Record.{instruction, record_at}
use Rattle.block_check.specs.Records.{records_from, records_of}
use Rattle.std.specs.Prelude.{Option, Some, None}
use Rattle.words_encoding.specs.Word.{encode}
use Rattle.words_encoding.specs.Decode.{decode}
use Rattle.words_encoding.proofs.Back.{decode-encode, decoded-where, word_fits}
use Rattle.text_series.specs.Series.{up_to}
use Rattle.text_series.proofs.Places.{rows_eq, row-entry, cut-rows, entries-are}
use Rattle.words_lists.specs.Words.{word_at, whole_words, is_record, is_legal_word, numbers, flat, words_refusal, read_refusal, records_in, Good, word_bytes, write_refusal, words_in, AllGood}
use Rattle.words_lists.specs.Lists.{ReadsWritten, WritesRead}
use Rattle.words_lists.proofs.Answers.{flat-length, records-length, no-refusal, words-length, all-good, all_fit}

-- ---- a word and its four bytes

word-of-bytes : (w : ℕ) → w < 2 ^ 32 → w % 256 + 256 * (w / 256 % 256) + 65536 * (w / 65536 % 256) + 16777216 * (w / 16777216 % 256) ≡ w
word-of-bytes w h =
    let p : w / 65536 ≡ w / 256 / 256 = omega arith in
    let q : w / 16777216 ≡ w / 65536 / 256 = omega arith in
    let top : w / 16777216 < 256 = omega arith in
    let x : w ≡ 256 * (w / 256) + w % 256 = omega arith in
    let y : w / 256 ≡ 256 * (w / 65536) + w / 256 % 256 = omega arith in
    let z : w / 65536 ≡ 256 * (w / 16777216) + w / 65536 % 256 = omega arith in
    let t : w / 16777216 % 256 ≡ w / 16777216 = omega arith in
    linear w (w / 256) (w / 65536) (w / 16777216) (w % 256) (w / 256 % 256) (w / 65536 % 256) (w / 16777216 % 256) x y z t
  where
    linear : (w u v n a b c d : ℕ) → w ≡ 256 * u + a → u ≡ 256 * v + b → v ≡ 256 * n + c → d ≡ n → a + 256 * b + 65536 * c + 16777216 * d ≡ w
    linear w u v n a b c d e f g h = omega arith

bytes-of-word : (a b c d : ℕ) → a < 256 → b < 256 → c < 256 → d < 256 → word_bytes (a + 256 * b + 65536 * c + 16777216 * d) ≡ a ∷ b ∷ c ∷ d ∷ []
bytes-of-word a b c d ha hb hc hd = go (a + 256 * b + 65536 * c + 16777216 * d) refl
  where
    low : (x y r : ℕ) → r < 256 → x ≡ r + 256 * y → x % 256 ≡ r
    low x y r h e = omega arith

    go : (w : ℕ) → w ≡ a + 256 * b + 65536 * c + 16777216 * d → word_bytes w ≡ a ∷ b ∷ c ∷ d ∷ []
    go w e =
        let x : w / 256 ≡ b + 256 * (c + 256 * d) = omega arith in
        let y : w / 65536 ≡ c + 256 * d = omega arith in
        let z : w / 16777216 ≡ d + 256 * 0 = omega arith in
        let p : w % 256 ≡ a = low w (b + 256 * (c + 256 * d)) a ha (omega arith) in
        let q : w / 256 % 256 ≡ b = low (w / 256) (c + 256 * d) b hb x in
        let r : w / 65536 % 256 ≡ c = low (w / 65536) d c hc y in
        let s : w / 16777216 % 256 ≡ d = low (w / 16777216) 0 d hd z in
        cc

-- ---- reading what was written

module _ (fs : List ℕ) (good : AllGood fs) where
  abbrev count : ℕ
  count = length fs / 6

  abbrev bytes : ℕ → List ℕ
  bytes j = word_bytes (encode (record_at fs j))

  abbrev written : List ℕ
  written = words_in fs

  count_is : whole_words written ≡ count
  count_is = omega (arith, words-length fs)

  byte_at : (j i : ℕ) → j < count → i < 4 → get_or written (4 * j + i) 0 ≡ get_or (bytes j) i 0
  unfolding words_in
  byte_at j i h l = row-entry 4 bytes count j i (λ j l. refl) h l

  word-at : (j : ℕ) → j < count → word_at written j ≡ encode (record_at fs j)
  word-at j h =
      let w = encode (record_at fs j) in
      let z = ap (λ (i : ℕ). get_or written i 0) (sym (add-zero (4 * j))) ∙ byte_at j 0 h (omega arith) in
      rw (z, byte_at j 1 h (omega arith), byte_at j 2 h (omega arith), byte_at j 3 h (omega arith)) (word-of-bytes w (word_fits (record_at fs j) (good j h)))

  record-at : (j : ℕ) → j < count → decode (word_at written j) ≡ Some (record_at fs j)
  record-at j h = ap decode (word-at j h) ∙ decode-encode (record_at fs j) (good j h)

  all_read : Good written count
  all_read = record {
    most = omega (arith, count_is);
    before = λ j h. ap is_record (record-at j h);
    first = λ h. absurd (omega (arith, count_is, h));
  }

  six-at : (j : ℕ) → j < count → flat (decode (word_at written j)) ≡ take 6 (drop (6 * j) fs)
  six-at j h = ap flat (record-at j h) ∙ sym (entries-are fs (6 * j) 6 (omega arith) ∙ simp add_assoc)

  read_back : records_in written ≡ take (6 * count) fs
  unfolding records_in
  read_back =
      ap (λ (k : ℕ). up_to k (λ j. flat (decode (word_at written j)))) count_is
      ∙ rows_eq count (λ j. flat (decode (word_at written j))) (λ j. take 6 (drop (6 * j) fs)) six-at
      ∙ cut-rows 6 fs count

  accepted : (room : ℕ) → 6 * count ≤ room → read_refusal written room ≡ refusal 0 0
  accepted room h = no-refusal written room count all_read (omega (arith, count_is)) (omega (arith, words-length fs)) (omega (arith, count_is))

no_record : (fs : List ℕ) (room : ℕ) → (write_refusal fs room).number ≡ 0 → (records_refusal 0 (records_of fs)).number ≡ 0
unfolding write_refusal
no_record fs room e = (first-zero (records_refusal 0 (records_of fs)) _ e).0

pub reads-written : ReadsWritten
reads-written fs room e room' h = let g = all-good fs (no_record fs room e) in (accepted fs g room' h, read_back fs g)

-- ---- writing what was read

the-record : (d : Option Instruction) → is_record d ≡ true → (c : Instruction) × (d ≡ Some c)
the-record (Some c) h = (c, refl)
the-record None h = absurd (false≢true h)

all-legal : (fs : List ℕ) (k j : ℕ) → ((i : ℕ) → j ≤ i → i < j + k → Legal (record_at fs i)) → records_refusal j (records_from fs j k) ≡ refusal 0 0
unfolding records_from records_refusal
all-legal fs zero j h = refl
all-legal fs (suc k) j h =
    rw (eq-eqb (record_number (record_at fs j)) 0 (h j (omega arith) (omega arith))) (all-legal fs k (suc j) (λ i l m. h i (omega arith) (omega arith)))

module _ (bs : List ℕ) (byte : (j : ℕ) → get_or bs j 0 < 256) where
  module _ (room : ℕ) (e : (read_refusal bs room).number ≡ 0) where
    whole : ((words_refusal bs).number ≡ 0) × (length bs % 4 ≡ 0)
    unfolding read_refusal
    whole =
        let later = first-zero (words_refusal bs) _ e in
        let last = first-zero (refusal (unless (eqb (length bs % 4) 0) 12 0) (whole_words bs)) _ later.1 in
        (later.0, eqb-true (length bs % 4) 0 (passed (eqb (length bs % 4) 0) (λ z. absurd (omega (arith, z))) last.0).0)

    abbrev many : ℕ
    many = whole_words bs

    good-words : Good bs many
    good-words = none-refused (is_legal_word bs) 12 (omega arith) many whole.0

    is-record : (j : ℕ) → j < many → is_legal_word bs j ≡ true
    is-record = good-words.before

    records-are : length (records_in bs) ≡ 6 * many
    records-are = records-length bs many good-words (omega arith)

    abbrev row : ℕ → List ℕ
    row j = flat (decode (word_at bs j))

    number_at : (j i : ℕ) → j < many → i < 6 → get_or (records_in bs) (6 * j + i) 0 ≡ get_or (row j) i 0
    unfolding records_in
    number_at j i h l = row-entry 6 row many j i (λ j l. flat-length bs (decode (word_at bs j)) (is-record j l)) h l

    -- record j is the one that word j is decoded to
    back_at : (j : ℕ) → j < many → decode (word_at bs j) ≡ Some (record_at (records_in bs) j)
    back_at j h =
        let r = the-record (decode (word_at bs j)) (is-record j h) in
        let n : (i : ℕ) → i < 6 → get_or (records_in bs) (6 * j + i) 0 ≡ get_or (numbers r.0) i 0 = λ i l. number_at j i h l ∙ ap (λ (d : Option Instruction). get_or (flat d) i 0) r.1 in
        let z = ap (λ (i : ℕ). get_or (records_in bs) i 0) (sym (add-zero (6 * j))) ∙ n 0 (omega arith) in
        r.1
        ∙ ap Some
        (sym (λ k. instruction (z k) (n 1 (omega arith) k) (n 2 (omega arith) k) (n 3 (omega arith) k) (n 4 (omega arith) k) (n 5 (omega arith) k)))

    legal-back : (j : ℕ) → j < many → Legal (record_at (records_in bs) j) × (encode (record_at (records_in bs) j) ≡ word_at bs j)
    legal-back j h = (decoded-where (word_at bs j) (record_at (records_in bs) j)).0 (back_at j h)

    four-at : (j : ℕ) → j < many → word_bytes (encode (record_at (records_in bs) j)) ≡ take 4 (drop (4 * j) bs)
    four-at j h =
        ap word_bytes (legal-back j h).1
        ∙ bytes-of-word _ _ _ _ (byte (4 * j)) (byte (4 * j + 1)) (byte (4 * j + 2)) (byte (4 * j + 3))
        ∙ sym (entries-are bs (4 * j) 4 (omega arith) ∙ simp add_assoc)

    write-back : words_in (records_in bs) ≡ bs
    unfolding words_in
    write-back =
        let k : length (records_in bs) / 6 ≡ many = omega (arith, records-are) in
        let rows : ℕ → List ℕ = λ j. word_bytes (encode (record_at (records_in bs) j)) in
        ap (λ (n : ℕ). up_to n rows) k
        ∙ rows_eq many rows (λ j. take 4 (drop (4 * j) bs)) four-at
        ∙ cut-rows 4 bs many
        ∙ take_all (4 * many) bs (omega (arith, whole.1))

    accepted-back : (room' : ℕ) → length bs ≤ room' → write_refusal (records_in bs) room' ≡ refusal 0 0
    accepted-back room' h =
        let k : length (records_in bs) / 6 ≡ many = omega (arith, records-are) in
        let z = ap (λ (n : ℕ). (records_refusal 0 (records_from (records_in bs) 0 n)).number) k
        ∙ ap (λ (x : Refusal). x.number) (all-legal (records_in bs) many 0 (λ i l m. (legal-back i (omega arith)).0)) in
        all_fit (records_in bs) room' z (omega (arith, k, whole.1))

pub writes-read : WritesRead
writes-read bs byte room e room' h = (accepted-back bs byte room e room' h, write-back bs byte room e)
