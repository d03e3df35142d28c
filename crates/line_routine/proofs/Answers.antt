-- What reading lines answers, by the way that it took. Assumes nothing.
use mathlib.Core.Path.{◌≡◌, refl, sym, ap, ◌∙◌}
use mathlib.Core.Bool.{Bool, true, false, ◌&&◌}
use mathlib.Core.List.{List, [], ◌∷◌, ◌++◌}
use Prim.Native.Nat.{ℕ, zero, suc, ◌+◌, ◌*◌, ◌-◌, ◌≤◌, ◌<◌}
use native.Mathlib.Nat.{zero-add, not-suc-le-zero, le_of_suc-le-suc}
use native.Mathlib.Omega.{arith}
use lib.Dec.{eqb}
use lib.ListN.{length, drop, take, get_or, length-take, length-drop, get_or-eq_default}
use lib.Seq.{sets-eq}
use borrow.Author.Tests.{eqb-true, ne_eqb, le-leb, lt-leb}
use Rattle.neon.specs.Refusal.{Refusal, refusal}
use Rattle.neon.proofs.First.{passed-all, all_pass, first-fails}
use Rattle.line_fields.specs.Fields.{in_columns, fields}
use Rattle.text_digits.specs.Writing.{Wrote}
use Rattle.text_series.proofs.Places.{rows-length}
use Rattle.line_routine.specs.Routine.{line_count, line_at, is_line, read_refusal, numbers_in, LinesRead, Good}

-- ---- one line

both : (a b : Bool) → (a && b) ≡ true → a ≡ true
both true b h = refl
both false b h = h

-- a line in columns has its 24 characters
pub long : (line : List ℕ) → in_columns line ≡ true → length line ≡ 24
unfolding in_columns
long line h = eqb-true (length line) 24 (both (eqb (length line) 24) _ h)

pub short-line : (bs : List ℕ) (j : ℕ) → length bs < 25 * j + 24 → is_line bs j ≡ false
unfolding is_line in_columns
short-line bs j h =
    rw (ne_eqb (length (line_at bs j)) 24 (λ e. omega (arith, e, length-take 24 (drop (25 * j) bs), length-drop (25 * j) bs)))

-- line j, which has its characters and is in columns, has them
pub line_fits : (bs : List ℕ) (j : ℕ) → is_line bs j ≡ true → 25 * j + 24 ≤ length bs
unfolding is_line
line_fits bs j h =
    omega (arith, long (line_at bs j) (both (in_columns (line_at bs j)) _ h), length-take 24 (drop (25 * j) bs), length-drop (25 * j) bs)

-- a byte that is there, whatever stands for one that is not
pub get_d_any : (l : List ℕ) (i d e : ℕ) → i < length l → get_or l i d ≡ get_or l i e
get_d_any [] i d e h = absurd (not-suc-le-zero h)
get_d_any (x ∷ l) zero d e h = refl
get_d_any (x ∷ l) (suc i) d e h = get_d_any l i d e (le_of_suc-le-suc h)

-- the part of the input that is line j
pub part-is : (bs : List ℕ) (at j : ℕ) → at ≡ 25 * j → take (at + 24 - at) (drop at bs) ≡ line_at bs j
part-is bs at j e = let n : at + 24 - at ≡ 24 = omega arith in rw (n, e)

module _ (bs : List ℕ) (j : ℕ) where
  pub bad-columns : in_columns (line_at bs j) ≡ false → is_line bs j ≡ false
  unfolding is_line
  bad-columns h = rw h

  pub byte-after : in_columns (line_at bs j) ≡ true → 25 * j + 24 < length bs → is_line bs j ≡ eqb (get_or bs (25 * j + 24) 0) 10
  unfolding is_line
  byte-after h l = rw (h, get_d_any bs (25 * j + 24) 10 0 l)

  pub none_after : in_columns (line_at bs j) ≡ true → length bs ≤ 25 * j + 24 → is_line bs j ≡ true
  unfolding is_line
  none_after h l = rw (h, get_or-eq_default bs 10 l)

-- ---- all lines

module _ (bs : List ℕ) where
  pub numbers-length : length (numbers_in bs) ≡ 6 * line_count bs
  unfolding numbers_in
  numbers-length = rows-length 6 (λ j. fields (line_at bs j)) (line_count bs) (λ j m. refl)

  -- ---- the refusals

  pub bad-line : (room r : ℕ) → Good bs r → r < line_count bs → read_refusal bs room ≡ refusal 10 r
  unfolding read_refusal
  bad-line room r g h = rw (first-fails g 10 (omega arith) h)

  pub long-routine : (room r : ℕ) → Good bs r → line_count bs ≤ r → room < 6 * line_count bs → read_refusal bs room ≡ refusal 8 0
  unfolding read_refusal
  long-routine room r g h s = rw (all_pass g 10 h, lt-leb (6 * line_count bs) room s)

  pub no-refusal : (room r : ℕ) → Good bs r → line_count bs ≤ r → 6 * line_count bs ≤ room → read_refusal bs room ≡ refusal 0 0
  unfolding read_refusal
  no-refusal room r g h s = rw (all_pass g 10 h, le-leb (6 * line_count bs) room s)

  pub refused : (old : List ℕ) (k p : ℕ) → read_refusal bs (length old) ≡ refusal (suc k) p → LinesRead bs old (record { number = suc k; position = p; count = 0 }) old
  refused old k p e =
      record {
        number_is = sym (ap (λ (x : Refusal). x.number) e);
        position_is = sym (ap (λ (x : Refusal). x.position) e);
        count_is = rw e;
        list_is = rw e;
      }

  pub all-good : (r : ℕ) → Good bs r → line_count bs ≤ r → Good bs (line_count bs)
  all-good r g h = passed-all (is_line bs) (line_count bs) (λ j l. g.before j (omega arith))

  pub written : {old new : List ℕ} {end n : ℕ} → n ≡ line_count bs → read_refusal bs (length old) ≡ refusal 0 0 → length (numbers_in bs) ≤ length old → Wrote old 0 (numbers_in bs) end new
      → LinesRead bs old (record { number = 0; position = 0; count = n }) new
  written {old} c e h w =
      record {
        number_is = sym (ap (λ (x : Refusal). x.number) e);
        position_is = sym (ap (λ (x : Refusal). x.position) e);
        count_is = rw e c;
        list_is = rw e (w.after_is ∙ sets-eq (numbers_in bs) old 0 (omega arith) ∙ ap (λ (k : ℕ). numbers_in bs ++ drop k old) (zero-add (length (numbers_in bs))));
      }
