-- There is a report exactly when reading the words refuses them by 12. Assumes nothing.
use mathlib.Core.Bool.{Bool, true, false}
use mathlib.Core.List.{List, [], ◌++◌}
use mathlib.Core.Logic.{⊎_elim, ◌↔◌}
use mathlib.Core.Path.{◌≡◌, refl, sym, ap, ◌∙◌, subst}
use Prim.Native.Nat.{ℕ, zero, suc, ◌+◌, ◌*◌, ◌-◌, ◌%◌, ◌≤◌, ◌<◌}
use native.Mathlib.Nat.{eq-or-lt_of_le, le_of_suc-le-suc, not-suc-le-zero}
use native.Mathlib.Omega.{arith}
use lib.Dec.{leb, ltb}
use lib.ListN.{length, length-append}
use borrow.Author.Tests.{lt-ltb, le-ltb, ltb-true, ltb-false, leb-true, leb-false}
use Rattle.terms.specs.Display.{bytes, decimal}
use Rattle.neon.specs.Refusal.{Refusal, PassedTo}
use Rattle.text_series.specs.Series.{up_to}
use Rattle.words_lists.specs.Words.{word_at, whole_words, is_legal_word, read_refusal, Good}
use Rattle.words_lists.proofs.Answers.{bad-word, broken-word, short-list, no-refusal}
use Rattle.words_run.specs.Rows.{word_count, name_text, foreign_text, broken_text, row, report}
use Rattle.words_run.specs.Run.{ReportsRefused}

-- ---- rows

empties : (f : ℕ → List ℕ) (k : ℕ) → ((j : ℕ) → j < k → f j ≡ []) → up_to k f ≡ []
unfolding up_to
empties f zero g = refl
empties f (suc k) g = rw (empties f k (λ j h. g j (omega arith)), g k (omega arith)) refl

longer : (f : ℕ → List ℕ) (k j : ℕ) → j < k → length (f j) ≤ length (up_to k f)
unfolding up_to
longer f zero j h = absurd (not-suc-le-zero h)
longer f (suc k) j h =
    ⊎_elim (λ e. subst (λ (i : ℕ). length (f i) ≤ length (up_to k f ++ f k)) (sym e) (omega (arith, length-append (up_to k f) (f k))))
    (λ l. omega (arith, longer f k j l, length-append (up_to k f) (f k))) (eq-or-lt_of_le (le_of_suc-le-suc h))

-- the first place that does not pass
first : (p : ℕ → Bool) (k : ℕ) → (r : ℕ) × PassedTo p k r
first p zero = (0, record { most = omega arith; before = λ j h. absurd (omega arith); first = λ h. absurd (omega arith) })
first p (suc k) = next (first p k)
  where
    next : (r : ℕ) × PassedTo p k r → (r : ℕ) × PassedTo p (suc k) r
    next (r, g) = go (ltb r k) refl (p k) refl
      where
        go : (b : Bool) → ltb r k ≡ b → (c : Bool) → p k ≡ c → (r : ℕ) × PassedTo p (suc k) r
        go true e c d = (r, record { most = omega (arith, g.most); before = g.before; first = λ h. g.first (ltb-true r k e) })
        go false e true d =
            let all : (j : ℕ) → j < k → p j ≡ true = λ j h. g.before j (omega (arith, ltb-false r k e, h)) in
            let more : (j : ℕ) → j < suc k → p j ≡ true = λ j h. ⊎_elim (λ q. ap p q ∙ d) (λ l. all j l) (eq-or-lt_of_le (le_of_suc-le-suc h)) in
            (suc k, record { most = omega arith; before = more; first = λ h. absurd (omega arith) })
        go false e false d = (k, record { most = omega arith; before = λ j h. g.before j (omega (arith, ltb-false r k e, h)); first = λ h. d })

named : (j : ℕ) (s : List ℕ) → 0 < length (name_text j ++ s)
named j s = omega (arith, length-append (name_text j) s, length-append (bytes "words: word ") (decimal j ++ bytes ": 12, "))

module _ (bs : List ℕ) where
  legal-row : (j : ℕ) → 4 * j + 4 ≤ length bs → is_legal_word bs j ≡ true → row true bs j ≡ []
  unfolding row
  legal-row j h l = rw (le-ltb (length bs - 4 * j) 4 (omega arith), l) refl

  foreign-row : (j : ℕ) → 4 * j + 4 ≤ length bs → is_legal_word bs j ≡ false → 0 < length (row true bs j)
  unfolding row
  foreign-row j h l = rw (le-ltb (length bs - 4 * j) 4 (omega arith), l) (named j (foreign_text (word_at bs j)))

  broken-row : (j : ℕ) → length bs - 4 * j < 4 → 0 < length (row true bs j)
  unfolding row
  broken-row j h = rw (lt-ltb (length bs - 4 * j) 4 h) (named j (broken_text (length bs - 4 * j)))

  reported : (j : ℕ) → j < word_count bs → 0 < length (row true bs j) → 0 < length (report bs)
  reported j h p = omega (arith, p, longer (row true bs) (word_count bs) j h)

  module _ (room r : ℕ) (g : Good bs r) where
    abbrev goal : Type 0
    goal = (0 < length (report bs)) ↔ ((read_refusal bs room).number ≡ 12)

    both : {p : ℕ} → read_refusal bs room ≡ record { number = 12; position = p } → 0 < length (report bs) → goal
    both e h = (λ x. ap (λ (y : Refusal). y.number) e, λ x. h)

    neither : {n p : ℕ} → read_refusal bs room ≡ record { number = n; position = p } → n < 12 → report bs ≡ [] → goal
    neither e l h = (λ x. absurd (omega (arith, x, ap length h)), λ x. absurd (omega (arith, l, x, ap (λ (y : Refusal). y.number) e)))

    all-ours : whole_words bs ≤ r → length bs % 4 ≡ 0 → report bs ≡ []
    all-ours h z =
        empties (row true bs) (word_count bs)
        (λ j l. let m : j < whole_words bs = omega arith in legal-row j (omega arith) (g.before j (omega (arith, m, h))))

    decided : goal
    decided = words (ltb r (whole_words bs)) refl
      where
        fits : (b : Bool) → leb (6 * whole_words bs) room ≡ b → whole_words bs ≤ r → length bs % 4 ≡ 0 → goal
        fits true q h z = neither (no-refusal bs room r g h z (leb-true (6 * whole_words bs) room q)) (omega arith) (all-ours h z)
        fits false q h z = neither (short-list bs room r g h z (leb-false (6 * whole_words bs) room q)) (omega arith) (all-ours h z)

        whole : (b : Bool) → ltb 0 (length bs % 4) ≡ b → whole_words bs ≤ r → goal
        whole true q h =
            let p = ltb-true 0 (length bs % 4) q in
            both (broken-word bs room r g h p) (reported (whole_words bs) (omega (arith, p)) (broken-row (whole_words bs) (omega arith)))
        whole false q h = fits (leb (6 * whole_words bs) room) refl h (omega (arith, ltb-false 0 (length bs % 4) q))

        words : (b : Bool) → ltb r (whole_words bs) ≡ b → goal
        words true q =
            let l = ltb-true r (whole_words bs) q in
            both (bad-word bs room r g l) (reported r (omega (arith, l)) (foreign-row r (omega (arith, l)) (g.first l)))
        words false q = whole (ltb 0 (length bs % 4)) refl (ltb-false r (whole_words bs) q)

pub reports-refused : ReportsRefused
reports-refused bs room = let f = first (is_legal_word bs) (whole_words bs) in decided bs room f.0 f.1
