-- Gaps, and the registers between them. Assumes nothing.
use mathlib.Core.Bool.{Bool, true, false, ◌&&◌, and-true, and-false, false≢true}
use mathlib.Core.List.{List, ◌∷◌}
use mathlib.Core.Path.{◌≡◌, refl, sym, ap, ◌∙◌, subst}
use Prim.Native.Nat.{ℕ, suc, ◌+◌, ◌*◌, ◌≤◌, ◌<◌}
use native.Mathlib.Nat.{add-zero}
use native.Mathlib.Numerals.{add-one}
use native.Mathlib.Omega.{arith}
use lib.Dec.{eqb, leb}
use lib.ListN.{length, drop, get_or, drop_of_length-le, get_or-eq_default}
use lib.Seq.{drop-cons}
use borrow.Author.Tests.{leb-true, leb-false}
use Rattle.text_digits.specs.Writing.{Wrote}
use Rattle.text_digits.proofs.Laws.{wrote_none, wrote_as}
use Rattle.text_series.specs.Series.{up_to}
use Rattle.text_series.proofs.Places.{rows-length}
use Rattle.text_series.proofs.Texts.{wrote-next}
use Rattle.neon.specs.Refusal.{PassedTo}
use Rattle.neon.proofs.First.{one_more, passed-all, all_pass, first-fails}
use Rattle.line_routine.proofs.Answers.{get_d_any}
use Rattle.run_registers.specs.declared.Start.{Start}
use Rattle.run_registers.specs.Digits.{is_hex, all_hex}
use Rattle.run_registers.specs.Start.{is_gap, gap, skip, after, place_of, is_register, is_there, pair_at, start_words, read_by, line_refusal, start_refusal, LineRead, StartRead}

module _ (newlines : Bool) (bs : List ℕ) (i : ℕ) where
  pub gap-over : length bs ≤ i → skip newlines bs i ≡ i
  unfolding gap
  gap-over h = rw (drop_of_length-le bs h) (add-zero i)

  pub gap-none : i < length bs → is_gap newlines (get_or bs i 0) ≡ false → skip newlines bs i ≡ i
  unfolding gap
  gap-none h e = rw (drop-cons bs i 0 h, e) (add-zero i)

  pub gap_more : i < length bs → is_gap newlines (get_or bs i 0) ≡ true → skip newlines bs (i + 1) ≡ skip newlines bs i
  unfolding gap
  gap_more h e = let d : drop i bs ≡ get_or bs i 0 ∷ drop (i + 1) bs = rw add-one (drop-cons bs i 0 h) in rw (d, e) (omega arith)

-- ---- one register

last-no-digit : (bs : List ℕ) (at k : ℕ) → is_hex (get_or bs (at + k) 0) ≡ false → all_hex bs at (suc k) ≡ false
unfolding all_hex
last-no-digit bs at k e = rw e (and-false (all_hex bs at k))

short : (bs : List ℕ) (at : ℕ) → length bs < at + 32 → all_hex bs at 32 ≡ false
short bs at h = last-no-digit bs at 31 (rw (get_or-eq_default bs 0 {n = at + 31} (omega arith)))

pub no_register : (bs : List ℕ) (at : ℕ) → length bs < at + 32 → is_register bs at ≡ false
unfolding is_register
no_register bs at h = rw (short bs at h)

pub register-fits : (bs : List ℕ) (at : ℕ) → is_register bs at ≡ true → at + 32 ≤ length bs
register-fits bs at e = go (leb (at + 32) (length bs)) refl
  where
    go : (b : Bool) → leb (at + 32) (length bs) ≡ b → at + 32 ≤ length bs
    go true h = leb-true (at + 32) (length bs) h
    go false h = absurd (false≢true (sym (no_register bs at (leb-false (at + 32) (length bs) h)) ∙ e))

pub gap-after : (bs : List ℕ) (at : ℕ) {a b : Bool} → at + 32 < length bs → a ≡ all_hex bs at 32 → b ≡ is_gap true (get_or bs (at + 32) 0)
    → (a && b) ≡ is_register bs at
unfolding is_register
gap-after bs at h e f = rw (get_d_any bs (at + 32) 10 0 h, e, f)

pub none_after : (bs : List ℕ) (at : ℕ) {a : Bool} → length bs ≤ at + 32 → a ≡ all_hex bs at 32 → a ≡ is_register bs at
unfolding is_register
none_after bs at h e = rw (get_or-eq_default bs 10 h, e) (sym (and-true (all_hex bs at 32)))

-- ---- the registers

-- the first r registers were read
pub record Reading (bs old words : List ℕ) (next r : ℕ) : Type 0 where
  pub wrote : Wrote old 0 (start_words bs r) (2 * r) words
  pub next_is : next ≡ after bs r
  pub next_in : next ≤ length bs
  pub good : (i : ℕ) → i < r → is_there bs i ≡ true
  pub most : r ≤ 32

pub start-length : (bs : List ℕ) (r : ℕ) → length (start_words bs r) ≡ 2 * r
unfolding start_words
start-length bs r = rows-length 2 (λ r. pair_at bs (place_of bs r)) r (λ j l. refl)

line-reads-all : (bs : List ℕ) (end : ℕ) → read_by (line_refusal bs end) ≡ 32
line-reads-all bs end = go (eqb (get_or bs end 10) 10) refl
  where
    go : (b : Bool) → eqb (get_or bs end 10) 10 ≡ b → read_by (line_refusal bs end) ≡ 32
    go true h = rw h
    go false h = rw h

module _ (bs old : List ℕ) where
  pub reading-none : Reading bs old old 0 0
  unfolding start_words up_to after
  reading-none = record { wrote = wrote_none old 0; next_is = refl; next_in = omega arith; good = λ i h. absurd (omega arith); most = omega arith }

  module _ {words : List ℕ} {next r : ℕ} (h : Reading bs old words next r) (at : ℕ) (place : at ≡ skip true bs next) where
    at_place : at ≡ place_of bs r
    at_place = place ∙ ap (skip true bs) h.next_is

    pub reading-more : {new : List ℕ} {end : ℕ} → r < 32 → is_register bs at ≡ true → Wrote words (2 * r) (pair_at bs at) end new → Reading bs old new (at + 32) (r + 1)
    unfolding start_words after
    reading-more {new} {end} l g w =
        let rows : ℕ → List ℕ = λ r. pair_at bs (place_of bs r) in
        let e : end ≡ 2 * (r + 1) = omega (arith, w.next_is) in
        record {
          wrote =
              subst (λ (k : ℕ). Wrote old 0 (up_to (r + 1) rows) k new) e
              (wrote-next rows r h.wrote (wrote_as (ap (pair_at bs) (sym at_place)) w));
          next_is = rw (add-one, after) (ap (λ (k : ℕ). k + 32) at_place);
          next_in = register-fits bs at g;
          good = one_more (is_there bs) r h.good (ap (is_register bs) (sym at_place) ∙ g);
          most = omega arith;
        }

    pub reading-bad : r < 32 → is_register bs at ≡ false → (s : Start) → (s.number ≡ 10) × (s.position ≡ r) × (s.next ≡ 0) → StartRead bs old s words
    unfolding start_refusal
    reading-bad l b s q =
        let good : PassedTo (is_there bs) 32 r = record { most = h.most; before = h.good; first = λ m. ap (is_register bs) (sym at_place) ∙ b } in
        let e = first-fails good 10 (omega arith) l in
        record {
          number_is = rw e q.0;
          position_is = rw e q.1;
          next_in = omega (arith, q);
          next_is = λ z. absurd (omega (arith, z, q));
          words_are = rw e h.wrote.after_is;
        }

  -- all registers, and then the line
  pub reading-all : {words : List ℕ} {next : ℕ} (s : Start) → Reading bs old words next 32 → LineRead bs next s → StartRead bs old s words
  unfolding start_refusal
  reading-all {words} {next} s h l =
      let e = all_pass (passed-all (is_there bs) 32 h.good) 10 (omega arith) in
      let n = h.next_is in
      record {
        number_is = rw (e, ← n) l.number_is;
        position_is = rw (e, ← n) l.position_is;
        next_in = l.next_in;
        next_is = λ z. rw (← n) (l.next_is z);
        words_are = rw (e, ← n, line-reads-all bs (skip false bs next)) h.wrote.after_is;
      }
