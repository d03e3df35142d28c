-- What reading and writing words answer, by the way that they took. Assumes nothing.
use mathlib.Core.Path.{◌≡◌, refl, sym, ap, ◌∙◌, subst}
use mathlib.Core.Bool.{true, false≢true}
use mathlib.Core.List.{List, ◌++◌}
use Prim.Native.Nat.{ℕ, suc, ◌*◌, ◌/◌, ◌%◌, ◌≤◌, ◌<◌}
use native.Mathlib.Nat.{zero-add}
use native.Mathlib.Omega.{arith}
use lib.ListN.{length, drop}
use lib.Seq.{sets-eq}
use borrow.Author.Tests.{eq-eqb, ne_eqb, le-leb, lt-leb}
use Rattle.neon.specs.Refusal.{Refusal, refusal, records_refusal, Legal}
use Rattle.neon.proofs.First.{all_pass, first-fails}
use Rattle.block_record_check.specs.Record.{record_at}
use Rattle.block_check.specs.Records.{records_of}
use Rattle.block_check.proofs.Refusals.{all-legal, legal-at}
use Rattle.words_encoding.specs.Word.{encode}
use Rattle.std.specs.Prelude.{Option, Some, None}
use Rattle.neon.specs.declared.Instruction.{Instruction}
use Rattle.words_encoding.specs.Decode.{decode}
use Rattle.words_encoding.proofs.Decoding.{positive}
use Rattle.text_digits.specs.Writing.{Wrote}
use Rattle.text_series.proofs.Places.{rows-length}
use Rattle.words_lists.specs.Words.{word_at, whole_words, is_record, flat, read_refusal, records_in, WordsRead, Good, word_bytes, write_refusal, words_in, WordsWritten, AllGood}

module _ (bs : List ℕ) where
  pub flat-length : (d : Option Instruction) → is_record d ≡ true → length (flat d) ≡ 6
  flat-length (Some c) h = refl
  flat-length None h = absurd (false≢true h)

  pub records-length : (r : ℕ) → Good bs r → whole_words bs ≤ r → length (records_in bs) ≡ 6 * whole_words bs
  unfolding records_in
  records-length r g h =
      rows-length 6 (λ j. flat (decode (word_at bs j))) (whole_words bs) (λ j m. flat-length (decode (word_at bs j)) (g.before j (omega arith)))

  -- ---- the refusals

  pub bad-word : (room r : ℕ) → Good bs r → r < whole_words bs → read_refusal bs room ≡ refusal 12 r
  unfolding read_refusal
  bad-word room r g h = rw (first-fails g 12 (omega arith) h)

  pub broken-word : (room r : ℕ) → Good bs r → whole_words bs ≤ r → 0 < length bs % 4 → read_refusal bs room ≡ refusal 12 (whole_words bs)
  unfolding read_refusal
  broken-word room r g h b = rw (all_pass g 12 h, ne_eqb (length bs % 4) 0 (λ e. omega (arith, e, b)))

  pub short-list : (room r : ℕ) → Good bs r → whole_words bs ≤ r → length bs % 4 ≡ 0 → room < 6 * whole_words bs → read_refusal bs room ≡ refusal 9 0
  unfolding read_refusal
  short-list room r g h b s = rw (all_pass g 12 h, eq-eqb (length bs % 4) 0 b, lt-leb (6 * whole_words bs) room s)

  pub no-refusal : (room r : ℕ) → Good bs r → whole_words bs ≤ r → length bs % 4 ≡ 0 → 6 * whole_words bs ≤ room → read_refusal bs room ≡ refusal 0 0
  unfolding read_refusal
  no-refusal room r g h b s = rw (all_pass g 12 h, eq-eqb (length bs % 4) 0 b, le-leb (6 * whole_words bs) room s)

  pub refused : (old : List ℕ) (k p : ℕ) → read_refusal bs (length old) ≡ refusal (suc k) p → WordsRead bs old (record { number = suc k; position = p; count = 0 }) old
  refused old k p e =
      record {
        number_is = sym (ap (λ (x : Refusal). x.number) e);
        position_is = sym (ap (λ (x : Refusal). x.position) e);
        count_is = rw e;
        list_is = rw e;
      }

  pub written : {old new : List ℕ} {end : ℕ} → read_refusal bs (length old) ≡ refusal 0 0 → length (records_in bs) ≤ length old → Wrote old 0 (records_in bs) end new
      → WordsRead bs old (record { number = 0; position = 0; count = whole_words bs }) new
  written {old} e h w =
      record {
        number_is = sym (ap (λ (x : Refusal). x.number) e);
        position_is = sym (ap (λ (x : Refusal). x.position) e);
        count_is = rw e;
        list_is = rw e (w.after_is ∙ sets-eq (records_in bs) old 0 (omega arith) ∙ ap (λ (k : ℕ). records_in bs ++ drop k old) (zero-add (length (records_in bs))));
      }

-- ---- writing

module _ (fs : List ℕ) where
  abbrev records : Refusal
  records = records_refusal 0 (records_of fs)

  pub words-length : length (words_in fs) ≡ 4 * (length fs / 6)
  unfolding words_in
  words-length = rows-length 4 (λ j. word_bytes (encode (record_at fs j))) (length fs / 6) (λ j m. refl)

  pub all-good : records.number ≡ 0 → AllGood fs
  all-good e j h = subst (λ (i : ℕ). Legal (record_at fs i)) (zero-add j) (legal-at fs 0 (length fs / 6) j (all-legal 0 (records_of fs) e) h)

  bad-record : (room : ℕ) → 0 < records.number → write_refusal fs room ≡ records
  unfolding write_refusal
  bad-record room h = rw (ne_eqb records.number 0 (λ e. omega (arith, e, h)))

  pub short-bytes : (room : ℕ) → records.number ≡ 0 → room < 4 * (length fs / 6) → write_refusal fs room ≡ refusal 9 0
  unfolding write_refusal
  short-bytes room e s = rw (eq-eqb records.number 0 e, lt-leb (4 * (length fs / 6)) room s)

  pub all_fit : (room : ℕ) → records.number ≡ 0 → 4 * (length fs / 6) ≤ room → write_refusal fs room ≡ refusal 0 0
  unfolding write_refusal
  all_fit room e s = rw (eq-eqb records.number 0 e, le-leb (4 * (length fs / 6)) room s)

  refused-by : (old : List ℕ) (x : Refusal) (k : ℕ) → write_refusal fs (length old) ≡ x → x.number ≡ suc k → (n p : ℕ) → n ≡ x.number → p ≡ x.position
      → WordsWritten fs old (record { number = n; position = p; count = 0 }) old
  refused-by old x k e q n p en ep =
      let m : (write_refusal fs (length old)).number ≡ suc k = ap (λ (y : Refusal). y.number) e ∙ q in
      record {
        number_is = en ∙ sym (ap (λ (y : Refusal). y.number) e);
        position_is = ep ∙ sym (ap (λ (y : Refusal). y.position) e);
        count_is = rw m;
        list_is = rw m;
      }

  pub record-refused : (old : List ℕ) (n p : ℕ) → n ≡ records.number → p ≡ records.position → 0 < n → WordsWritten fs old (record { number = n; position = p; count = 0 }) old
  record-refused old n p en ep h =
      positive records.number (omega (arith, en, h)) (λ k q. refused-by old records k (bad-record (length old) (omega (arith, en, h))) q n p en ep)

  pub bytes-refused : (old : List ℕ) → write_refusal fs (length old) ≡ refusal 9 0 → WordsWritten fs old (record { number = 9; position = 0; count = 0 }) old
  bytes-refused old e = refused-by old (refusal 9 0) 8 e refl 9 0 refl refl

  pub words-written : {old new : List ℕ} {end : ℕ} → write_refusal fs (length old) ≡ refusal 0 0 → length (words_in fs) ≤ length old → Wrote old 0 (words_in fs) end new
      → WordsWritten fs old (record { number = 0; position = 0; count = length fs / 6 }) new
  words-written {old} e h w =
      record {
        number_is = sym (ap (λ (x : Refusal). x.number) e);
        position_is = sym (ap (λ (x : Refusal). x.position) e);
        count_is = rw e;
        list_is = rw e (w.after_is ∙ sets-eq (words_in fs) old 0 (omega arith) ∙ ap (λ (k : ℕ). words_in fs ++ drop k old) (zero-add (length (words_in fs))));
      }
