-- The characters of a number in columns, one by one. Assumes nothing.
use mathlib.Core.Path.{◌≡◌, refl, sym, ap, ◌∙◌}
use mathlib.Core.Bool.{Bool, true, false}
use mathlib.Core.List.{List, [], ◌∷◌, ◌++◌}
use Prim.Native.Nat.{ℕ, ◌+◌, ◌-◌, ◌/◌, ◌%◌, ◌≤◌, ◌<◌}
use native.Mathlib.Omega.{arith}
use lib.Dec.{ltb}
use lib.ListN.{length, replicate}
use borrow.Author.Tests.{eq-eqb, ne_eqb, ltb-true, ltb-false}
use Rattle.terms.specs.Display.{decimal}
use Rattle.text_digits.proofs.Laws.{digits-one, digits_more}
use Rattle.text_digits.proofs.TwoDigits.{decimal_digit}
use Rattle.line_columns.specs.Columns.{columns, character_of}

one : (x : ℕ) → x < 10 → decimal x ≡ (48 + x) ∷ []
unfolding decimal
one x h = digits-one 10 x h ∙ ap (λ (k : ℕ). k ∷ []) (decimal_digit x h)

more : (x : ℕ) → 10 ≤ x → decimal x ≡ decimal (x / 10) ++ ((48 + x % 10) ∷ [])
unfolding decimal
more x h = digits_more 10 x (omega arith) h ∙ ap (λ (k : ℕ). decimal (x / 10) ++ (k ∷ [])) (decimal_digit (x % 10) (omega arith))

two : (x : ℕ) → 10 ≤ x → x < 100 → decimal x ≡ (48 + x / 10) ∷ (48 + x % 10) ∷ []
two x g h = more x g ∙ rw (one (x / 10) (omega arith))

three : (x : ℕ) → 100 ≤ x → x < 1000 → decimal x ≡ (48 + x / 10 / 10) ∷ (48 + x / 10 % 10) ∷ (48 + x % 10) ∷ []
three x g h = more x (omega arith) ∙ rw (two (x / 10) (omega arith) (omega arith))

last-four : (x : ℕ) → 1000 ≤ x → x < 10000 → decimal x ≡ (48 + x / 10 / 10 / 10) ∷ (48 + x / 10 / 10 % 10) ∷ (48 + x / 10 % 10) ∷ (48 + x % 10) ∷ []
last-four x g h = more x (omega arith) ∙ rw (three (x / 10) (omega arith) (omega arith))

-- a blank, and a digit
blank : (q : ℕ) → q ≡ 0 → 32 ≡ character_of q
blank q e = sym (rw (eq-eqb q 0 e))

figure : (q k : ℕ) → 1 ≤ q → k ≡ q % 10 → 48 + k ≡ character_of q
figure q k h e = ap (λ (z : ℕ). 48 + z) e ∙ sym (rw (ne_eqb q 0 (λ (z : q ≡ 0). omega arith)))

-- four characters, one by one
pub four : {a b c d a' b' c' d' : ℕ} → a ≡ a' → b ≡ b' → c ≡ c' → d ≡ d' → ◌≡◌ {A = List ℕ} (a ∷ b ∷ c ∷ d ∷ []) (a' ∷ b' ∷ c' ∷ d' ∷ [])
four p q r s = cc

abbrev pub characters : ℕ → List ℕ
characters x = character_of (x / 1000) ∷ character_of (x / 100) ∷ character_of (x / 10) ∷ (48 + x % 10) ∷ []

abbrev pad : List ℕ → List ℕ
pad s = replicate (4 - length s) 32 ++ s

ones : (x : ℕ) → x < 10 → columns x ≡ characters x
unfolding columns
ones x h =
    ap pad (one x h)
    ∙ four (blank (x / 1000) (omega arith)) (blank (x / 100) (omega arith)) (blank (x / 10) (omega arith)) (omega arith)

tens : (x : ℕ) → 10 ≤ x → x < 100 → columns x ≡ characters x
unfolding columns
tens x g h =
    ap pad (two x g h)
    ∙ four (blank (x / 1000) (omega arith)) (blank (x / 100) (omega arith)) (figure (x / 10) (x / 10) (omega arith) (omega arith)) refl

hundreds : (x : ℕ) → 100 ≤ x → x < 1000 → columns x ≡ characters x
unfolding columns
hundreds x g h =
    ap pad (three x g h)
    ∙ four (blank (x / 1000) (omega arith)) (figure (x / 100) (x / 10 / 10) (omega arith) (omega arith))
    (figure (x / 10) (x / 10 % 10) (omega arith) refl) refl

thousands : (x : ℕ) → 1000 ≤ x → x < 10000 → columns x ≡ characters x
unfolding columns
thousands x g h =
    ap pad (last-four x g h)
    ∙ four (figure (x / 1000) (x / 10 / 10 / 10) (omega arith) (omega arith)) (figure (x / 100) (x / 10 / 10 % 10) (omega arith) (omega arith))
    (figure (x / 10) (x / 10 % 10) (omega arith) refl) refl

pub columns-are : (x : ℕ) → x < 10000 → columns x ≡ characters x
columns-are x h = go (ltb x 10) refl (ltb x 100) refl (ltb x 1000) refl
  where
    go : (s : Bool) → ltb x 10 ≡ s → (t : Bool) → ltb x 100 ≡ t → (u : Bool) → ltb x 1000 ≡ u → columns x ≡ characters x
    go true e t f u g = ones x (ltb-true x 10 e)
    go false e true f u g = tens x (ltb-false x 10 e) (ltb-true x 100 f)
    go false e false f true g = hundreds x (ltb-false x 100 f) (ltb-true x 1000 g)
    go false e false f false g = thousands x (ltb-false x 1000 g) h
