-- The test of a field, character by character. Assumes nothing.
use mathlib.Core.Path.{◌≡◌, refl, sym, ap, ◌∙◌}
use mathlib.Core.Bool.{Bool, true, false, ◌&&◌, and_assoc, and-true, false≢true}
use mathlib.Core.List.{List, [], ◌∷◌}
use Prim.Native.Nat.{ℕ, suc, ◌+◌, ◌-◌, ◌*◌, ◌/◌, ◌%◌, ◌≤◌, ◌<◌}
use native.Mathlib.Omega.{arith}
use lib.Dec.{leb, eqb}
use lib.ListN.{length, get_or, take, drop}
use lib.Seq.{drop-cons}
use borrow.Author.Tests.{leb-true, eq-eqb, ne_eqb}
use Rattle.facts.proofs.Tests.{and_both}
use Rattle.facts.specs.Same.{same}
use Rattle.line_columns.specs.Columns.{columns, character_of, shown, field_at, is_field}
use Rattle.line_columns.proofs.Characters.{characters, columns-are}

-- 4 characters, one by one
pub chars : (l : List ℕ) (at : ℕ) → at + 4 ≤ length l
    → take 4 (drop at l) ≡ get_or l at 0 ∷ get_or l (at + 1) 0 ∷ get_or l (at + 2) 0 ∷ get_or l (at + 3) 0 ∷ []
chars l at h =
    let step : (k j : ℕ) → j ≡ suc k → k < length l → drop k l ≡ get_or l k 0 ∷ drop j l = λ k j e g. rw e (drop-cons l k 0 g) in
    ap (take 4) (step at (at + 1) (omega arith) (omega arith))
    ∙ ap (λ (r : List ℕ). get_or l at 0 ∷ take 3 r) (step (at + 1) (at + 2) (omega arith) (omega arith))
    ∙ ap (λ (r : List ℕ). get_or l at 0 ∷ get_or l (at + 1) 0 ∷ take 2 r) (step (at + 2) (at + 3) (omega arith) (omega arith))
    ∙ ap (λ (r : List ℕ). get_or l at 0 ∷ get_or l (at + 1) 0 ∷ get_or l (at + 2) 0 ∷ take 1 r) (step (at + 3) (at + 4) (omega arith) (omega arith))

-- the test of 4 characters against w, a number in columns
tested : (a b c d : ℕ) (w : List ℕ) (x : ℕ) → w ≡ characters x
    → same (a ∷ b ∷ c ∷ d ∷ []) w ≡ (eqb a (get_or w 0 0) && eqb b (get_or w 1 0) && eqb c (get_or w 2 0) && eqb d (get_or w 3 0))
tested a b c d w x e = rw e (simp (and_assoc, and-true))

-- a character is a digit if it is the character of the digit that it shows
digit-test : (b q : ℕ) → shown b ≡ q → (leb 48 b && leb b 57) ≡ eqb b (48 + q)
digit-test b q e = go (leb 48 b && leb b 57) refl
  where
    go : (t : Bool) → (leb 48 b && leb b 57) ≡ t → (leb 48 b && leb b 57) ≡ eqb b (48 + q)
    go true h =
        let p = and_both (leb 48 b) (leb b 57) h in
        let l : 48 ≤ b = leb-true 48 b p.0 in
        let v : b - 48 ≡ q = rw h at e in
        h ∙ sym (eq-eqb b (48 + q) (omega arith))
    go false h =
        let v : 0 ≡ q = rw h at e in
        h ∙ sym (ne_eqb b (48 + q) (λ z. false≢true (sym h ∙ rw (z ∙ ap (λ (k : ℕ). 48 + k) (sym v)))))

module _ (line : List ℕ) (at : ℕ) (w : List ℕ) (x : ℕ) (h : at + 4 ≤ length line) (is : x ≡ field_at line at) (low : x < 10000) (e : w ≡ columns x) where
  pub field-test : is_field line at
      ≡ (eqb (get_or line at 0) (get_or w 0 0)
      && eqb (get_or line (at + 1) 0) (get_or w 1 0)
      && eqb (get_or line (at + 2) 0) (get_or w 2 0)
      && eqb (get_or line (at + 3) 0) (get_or w 3 0))
  unfolding is_field
  field-test =
      ap (λ (z : ℕ). same (take 4 (drop at line)) (columns z)) (sym is)
      ∙ ap (λ (z : List ℕ). same (take 4 (drop at line)) z) (sym e)
      ∙ ap (λ (z : List ℕ). same z w) (chars line at h)
      ∙ tested _ _ _ _ w x (e ∙ columns-are x low)

shown-low : (b : ℕ) → shown b ≤ 9
shown-low b = go (leb 48 b && leb b 57) refl
  where
    go : (t : Bool) → (leb 48 b && leb b 57) ≡ t → shown b ≤ 9
    go true h = let l : b ≤ 57 = leb-true b 57 (and_both (leb 48 b) (leb b 57) h).1 in rw h (omega arith)
    go false h = rw h (omega arith)

-- the digits of a number, from those that its characters show
module _ (a b c d x : ℕ) (is : x ≡ 1000 * a + 100 * b + 10 * c + d) (la : a ≤ 9) (lb : b ≤ 9) (lc : c ≤ 9) (ld : d ≤ 9) where
  low : x < 10000
  low = omega arith

  thousands : a ≡ x / 1000
  thousands = omega arith

  hundreds : 10 * a + b ≡ x / 100
  hundreds = omega arith

  tens : 10 * (10 * a + b) + c ≡ x / 10
  tens = omega arith

  ones : d ≡ x % 10
  ones = omega arith

module _ (line : List ℕ) (at : ℕ) (h : at + 4 ≤ length line) where
  abbrev sign : ℕ → ℕ
  sign k = get_or line (at + k) 0

  -- the four tests
  pub field_is : {a b c : ℕ} {p q r s : Bool} → a ≡ shown (get_or line at 0) → b ≡ 10 * a + shown (sign 1) → c ≡ 10 * b + shown (sign 2)
      → p ≡ eqb (get_or line at 0) (character_of a)
      → q ≡ eqb (sign 1) (character_of b)
      → r ≡ eqb (sign 2) (character_of c)
      → s ≡ (leb 48 (sign 3) && leb (sign 3) 57)
      → (p && q && r && s) ≡ is_field line at
  unfolding field_at
  field_is {a} {b} {c} ea eb ec ep eq er es =
      let x = field_at line at in
      let A = shown (get_or line at 0) in
      let B = shown (sign 1) in
      let C = shown (sign 2) in
      let D = shown (sign 3) in
      let la = shown-low (get_or line at 0) in
      let lb = shown-low (sign 1) in
      let lc = shown-low (sign 2) in
      let ld = shown-low (sign 3) in
      let l = low A B C D x refl la lb lc ld in
      let ta = ap character_of (ea ∙ thousands A B C D x refl la lb lc ld) in
      let hb : b ≡ x / 100 = omega (arith, ea, eb, hundreds A B C D x refl la lb lc ld) in
      let hc : c ≡ x / 10 = omega (arith, ea, eb, ec, tens A B C D x refl la lb lc ld) in
      let tb = ap character_of hb in
      let tc = ap character_of hc in
      let td = digit-test (sign 3) (x % 10) (ones A B C D x refl la lb lc ld) in
      let t = field-test line at (characters x) x h refl l (sym (columns-are x l)) in
      cc (ep, eq, er, es, ta, tb, tc, td, t)
