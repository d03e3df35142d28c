-- A line is in columns exactly when it is six numbers below 10,000, each in columns; they are then its fields. Assumes nothing.
use mathlib.Core.Bool.{Bool, true, false}
use mathlib.Core.List.{List, [], ◌∷◌, ◌++◌, append-nil}
use mathlib.Core.Path.{◌≡◌, refl, sym, ap, ◌∙◌}
use Prim.Native.Nat.{ℕ, ◌+◌, ◌*◌, ◌/◌, ◌%◌, ◌≤◌, ◌<◌}
use native.Mathlib.Omega.{arith}
use lib.Dec.{eqb}
use lib.ListN.{length, get_or, take, drop, take-append-drop, drop_of_length-le}
use lib.Seq.{drop-drop}
use borrow.Author.Tests.{le-leb, eqb-true}
use Rattle.facts.specs.Same.{same}
use Rattle.facts.proofs.Tests.{and_both}
use Rattle.facts.proofs.Same.{same_refl, same-eq}
use Rattle.line_columns.specs.Columns.{columns, character_of, shown, field_at, is_field}
use Rattle.line_fields.specs.Fields.{in_columns, fields}
use Rattle.line_columns.proofs.Characters.{characters, columns-are}
use Rattle.line_columns.proofs.Fields.{chars}

abbrev pub line_of : (a b c d e f : ℕ) → List ℕ
line_of a b c d e f = columns a ++ (columns b ++ (columns c ++ (columns d ++ (columns e ++ columns f))))

-- ---- a number in columns is read as itself

shown-figure : (d : ℕ) → d < 10 → shown (48 + d) ≡ d
shown-figure d h = rw (le-leb 48 (48 + d) (omega arith), le-leb (48 + d) 57 (omega arith)) (omega arith)

shown-character : (q : ℕ) → shown (character_of q) ≡ q % 10
shown-character q = go (eqb q 0) refl
  where
    go : (t : Bool) → eqb q 0 ≡ t → shown (character_of q) ≡ q % 10
    go true e = let z : q ≡ 0 = eqb-true q 0 e in rw e (omega arith)
    go false e = rw e (shown-figure (q % 10) (omega arith))

-- a number by its digits
sum : (x a b c p q r s : ℕ) → x ≡ 10 * c + s → c ≡ 10 * b + r → b ≡ 10 * a + q → a ≡ p → 1000 * p + 100 * q + 10 * r + s ≡ x
sum x a b c p q r s e f g h = omega arith

digits_sum : (x : ℕ) → x < 10000 → 1000 * (x / 1000 % 10) + 100 * (x / 100 % 10) + 10 * (x / 10 % 10) + x % 10 ≡ x
digits_sum x h =
    sum x (x / 1000) (x / 100) (x / 10) (x / 1000 % 10) (x / 100 % 10) (x / 10 % 10) (x % 10) (omega arith) (omega arith) (omega arith) (omega arith)

module _ (line : List ℕ) (at x : ℕ) (low : x < 10000) (h : at + 4 ≤ length line) (e : take 4 (drop at line) ≡ characters x) where
  character-at : (k : ℕ) → get_or (get_or line at 0 ∷ get_or line (at + 1) 0 ∷ get_or line (at + 2) 0 ∷ get_or line (at + 3) 0 ∷ []) k 0 ≡ get_or (characters x) k 0
  character-at k = ap (λ (z : List ℕ). get_or z k 0) (sym (chars line at h) ∙ e)

  field_is : field_at line at ≡ x
  unfolding field_at
  field_is =
      let p = ap shown (character-at 0) ∙ shown-character (x / 1000) in
      let q = ap shown (character-at 1) ∙ shown-character (x / 100) in
      let r = ap shown (character-at 2) ∙ shown-character (x / 10) in
      let s = ap shown (character-at 3) ∙ shown-figure (x % 10) (omega arith) in
      rw (p, q, r, s) (digits_sum x low)

  field-ok : is_field line at ≡ true
  unfolding is_field
  field-ok =
      ap (λ (z : ℕ). same (take 4 (drop at line)) (columns z)) field_is
      ∙ ap (λ (z : List ℕ). same (take 4 (drop at line)) z) (columns-are x low ∙ sym e)
      ∙ same_refl (take 4 (drop at line))

module _ (a b c d e f : ℕ) (la : a < 10000) (lb : b < 10000) (lc : c < 10000) (ld : d < 10000) (le : e < 10000) (lf : f < 10000) where
  abbrev whole : List ℕ
  whole = characters a ++ (characters b ++ (characters c ++ (characters d ++ (characters e ++ characters f))))

  line-is : line_of a b c d e f ≡ whole
  line-is = rw (columns-are a la, columns-are b lb, columns-are c lc, columns-are d ld, columns-are e le, columns-are f lf)

  whole-ok : in_columns whole ≡ true
  unfolding in_columns
  whole-ok =
      rw (
        field-ok whole 0 a la (omega arith) refl,
        field-ok whole 4 b lb (omega arith) refl,
        field-ok whole 8 c lc (omega arith) refl,
        field-ok whole 12 d ld (omega arith) refl,
        field-ok whole 16 e le (omega arith) refl,
        field-ok whole 20 f lf (omega arith) refl,
      )

  whole_fields : fields whole ≡ a ∷ b ∷ c ∷ d ∷ e ∷ f ∷ []
  whole_fields =
      rw (
        field_is whole 0 a la (omega arith) refl,
        field_is whole 4 b lb (omega arith) refl,
        field_is whole 8 c lc (omega arith) refl,
        field_is whole 12 d ld (omega arith) refl,
        field_is whole 16 e le (omega arith) refl,
        field_is whole 20 f lf (omega arith) refl,
      )

  pub written_read : (in_columns (line_of a b c d e f) ≡ true) × (fields (line_of a b c d e f) ≡ a ∷ b ∷ c ∷ d ∷ e ∷ f ∷ [])
  written_read = (ap in_columns line-is ∙ whole-ok, ap fields line-is ∙ whole_fields)

-- ---- a line in columns is its fields, each in columns

module _ (line : List ℕ) where
  columns-at : (at : ℕ) → is_field line at ≡ true → take 4 (drop at line) ≡ columns (field_at line at)
  unfolding is_field
  columns-at at e = same-eq _ _ e

  next : (at : ℕ) → is_field line at ≡ true → drop at line ≡ columns (field_at line at) ++ drop (at + 4) line
  next at e =
      sym (take-append-drop 4 (drop at line))
      ∙ ap (λ (z : List ℕ). take 4 (drop at line) ++ z) (drop-drop 4 at line)
      ∙ ap (λ (z : List ℕ). z ++ drop (at + 4) line) (columns-at at e)

  pub read-written : in_columns line ≡ true
      → line ≡ line_of (field_at line 0) (field_at line 4) (field_at line 8) (field_at line 12) (field_at line 16) (field_at line 20)
  unfolding in_columns
  read-written e =
      let p = and_both (eqb (length line) 24) _ e in
      let p20 = and_both _ (is_field line 20) p.1 in
      let p16 = and_both _ (is_field line 16) p20.0 in
      let p12 = and_both _ (is_field line 12) p16.0 in
      let p8 = and_both _ (is_field line 8) p12.0 in
      let p4 = and_both (is_field line 0) (is_field line 4) p8.0 in
      let n : length line ≡ 24 = eqb-true (length line) 24 p.0 in
      let none : drop 24 line ≡ [] = drop_of_length-le line {i = 24} (omega arith) in
      next 0 p4.0
      ∙ ap (λ (z : List ℕ). columns (field_at line 0) ++ z)
      (next 4 p4.1
      ∙ ap (λ (z : List ℕ). columns (field_at line 4) ++ z)
      (next 8 p8.1
      ∙ ap (λ (z : List ℕ). columns (field_at line 8) ++ z)
      (next 12 p12.1
      ∙ ap (λ (z : List ℕ). columns (field_at line 12) ++ z)
      (next 16 p16.1
      ∙ ap (λ (z : List ℕ). columns (field_at line 16) ++ z)
      (next 20 p20.1 ∙ ap (λ (z : List ℕ). columns (field_at line 20) ++ z) none ∙ append-nil (columns (field_at line 20)))))))
