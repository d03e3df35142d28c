-- Numerals and binaries are read as the numbers that were written. Assumes nothing.
use mathlib.Core.Logic.{◌⊎◌, inl, inr}
use mathlib.Core.Path.{◌≡◌, refl, sym, ap, ◌∙◌}
use mathlib.Core.Bool.{Bool, true}
use mathlib.Core.List.{List, [], ◌∷◌, ◌++◌}
use mathlib.Core.Option.{some}
use Prim.Native.Nat.{ℕ, zero, suc, ◌+◌, ◌-◌, ◌*◌, ◌/◌, ◌%◌, ◌^◌, ◌≤◌, ◌<◌}
use native.Mathlib.Nat.{div-lt_self}
use native.Mathlib.Omega.{arith}
use lib.ListN.{length}
use lib.Pow.{mod-pow-add}
use borrow.Author.Tests.{le-leb, ne_eqb}
use Rattle.facts.proofs.Tests.{and_both}
use Rattle.facts.proofs.Numbers.{before-or-from}
use Rattle.terms.specs.Display.{digit, decimal}
use Rattle.text_digits.proofs.Laws.{digits, digits-one, digits_more}
use Rattle.text_digits.proofs.TwoDigits.{decimal_digit}
use Rattle.script_meaning.specs.Read.{is_digit}
use Rattle.script_meaning.specs.Values.{all, number, is_numeral, numeral, is_binary_digit}
use Rattle.script_meaning.specs.Script.{binary}

-- ---- decimals

number_append : (b x : ℕ) (s : List ℕ) (c : ℕ) → number b x (s ++ (c ∷ [])) ≡ b * number b x s + (c - 48)
unfolding number
number_append b x [] c = refl
number_append b x (d ∷ s) c = number_append b (b * x + (d - 48)) s c

digit-digit : (d : ℕ) → d < 10 → is_digit (digit d) ≡ true
digit-digit d h = rw (decimal_digit d h, le-leb 48 (48 + d) (omega arith), le-leb (48 + d) 57 (omega arith))

-- digits, the first not 0 if x is not
record Spelt (x : ℕ) (s : List ℕ) : Type 0 where
  first : ℕ
  more : List ℕ
  are : s ≡ first ∷ more
  digits_are : all is_digit (first ∷ more) ≡ true
  no_zero : 0 < x → first ≡ 48 → ⊥
  alone : x ≡ 0 → more ≡ []
  is : number 10 0 s ≡ x

all_append : (p : ℕ → Bool) (s : List ℕ) (c : ℕ) → all p s ≡ true → p c ≡ true → all p (s ++ (c ∷ [])) ≡ true
all_append p [] c h g = rw g
all_append p (d ∷ s) c h g = let q = and_both (p d) (all p s) h in rw (q.0, all_append p s c q.1 g)

spelt : (f x : ℕ) → x ≤ f → Spelt x (digits 10 x)
unfolding number
spelt zero x h =
    let l : x < 10 = omega arith in
    record {
      first = digit x;
      more = [];
      are = digits-one 10 x l;
      digits_are = rw (digit-digit x l);
      no_zero = λ p e. omega (arith, decimal_digit x l);
      alone = λ e. refl;
      is = rw (digits-one 10 x l) (omega (arith, decimal_digit x l));
    }
spelt (suc f) x h = go (before-or-from x 10) (λ g. spelt f (x / 10) (omega (arith, div-lt_self {n = x} {k = 10} (omega arith) (omega arith))))
  where
    go : (x < 10) ⊎ (10 ≤ x) → (10 ≤ x → Spelt (x / 10) (digits 10 (x / 10))) → Spelt x (digits 10 x)
    go (inl l) ih =
        record {
          first = digit x;
          more = [];
          are = digits-one 10 x l;
          digits_are = rw (digit-digit x l);
          no_zero = λ p e. omega (arith, decimal_digit x l);
          alone = λ e. refl;
          is = rw (digits-one 10 x l) (omega (arith, decimal_digit x l));
        }
    go (inr g) ih =
        let s = ih g in
        let d = digit (x % 10) in
        let l : x % 10 < 10 = omega arith in
        record {
          first = s.first;
          more = s.more ++ (d ∷ []);
          are = digits_more 10 x (omega arith) g ∙ ap (λ (u : List ℕ). u ++ (d ∷ [])) s.are;
          digits_are = all_append is_digit (s.first ∷ s.more) d s.digits_are (digit-digit (x % 10) l);
          no_zero = λ p e. s.no_zero (omega arith) e;
          alone = λ e. absurd (omega arith);
          is =
              ap (number 10 0) (digits_more 10 x (omega arith) g)
              ∙ number_append 10 0 (digits 10 (x / 10)) d
              ∙ ap (λ (u : ℕ). 10 * u + (d - 48)) s.is
              ∙ omega (arith, decimal_digit (x % 10) l);
        }

numeral-of : (x first : ℕ) (more : List ℕ) → all is_digit (first ∷ more) ≡ true → (0 < x → first ≡ 48 → ⊥) → (x ≡ 0 → more ≡ []) → is_numeral (first ∷ more) ≡ true
numeral-of x first [] h z a = (and_both (is_digit first) true h).0
numeral-of zero first (d ∷ cs) h z a = let q : ◌≡◌ {A = ℕ} 0 1 = cc (a refl) in absurd (omega arith)
numeral-of (suc x) first (d ∷ cs) h z a = rw (h, ne_eqb first 48 (z (omega arith)))

pub decimal-numeral : (x : ℕ) → numeral (decimal x) ≡ some x
unfolding decimal
decimal-numeral x =
    let s = spelt x x (omega arith) in
    rw (ap is_numeral s.are ∙ numeral-of x s.first s.more s.digits_are s.no_zero s.alone, s.is)

pub decimal-number : (x : ℕ) → number 10 0 (decimal x) ≡ x
unfolding decimal
decimal-number x = (spelt x x (omega arith)).is

-- so each number has its own decimal
pub decimal-one : (x y : ℕ) → decimal x ≡ decimal y → x ≡ y
decimal-one x y e = sym (decimal-number x) ∙ ap (number 10 0) e ∙ decimal-number y

-- a decimal is not empty, and of digits
pub decimal-digits : (x : ℕ) → all is_digit (decimal x) ≡ true
unfolding decimal
decimal-digits x = let s = spelt x x (omega arith) in rw s.are s.digits_are

-- ---- binaries

pow-suc-left : (w : ℕ) → 2 ^ suc w ≡ 2 * 2 ^ w
pow-suc-left w = omega arith

half-parts : (v w : ℕ) → v % 2 ^ suc w ≡ v / 2 ^ w % 2 * 2 ^ w + v % 2 ^ w
half-parts v w = ap (λ (k : ℕ). v % 2 ^ k) (omega arith) ∙ mod-pow-add v 1 w

drop-zero : (b : ℕ) → 48 + b - 48 ≡ b
drop-zero b = omega arith

carried : (a b P r : ℕ) → (2 * a + b) * P + r ≡ a * (2 * P) + (b * P + r)
carried a b P r = omega arith

pub binary-number : (w v a : ℕ) → number 2 a (binary w v) ≡ a * 2 ^ w + v % 2 ^ w
unfolding number binary
binary-number zero v a = omega arith
binary-number (suc w) v a =
    binary-number w v (2 * a + (48 + v / 2 ^ w % 2 - 48))
    ∙ ap (λ (b : ℕ). (2 * a + b) * 2 ^ w + v % 2 ^ w) (drop-zero (v / 2 ^ w % 2))
    ∙ carried a (v / 2 ^ w % 2) (2 ^ w) (v % 2 ^ w)
    ∙ rw (half-parts v w, pow-suc-left w)

pub binary-length : (w v : ℕ) → length (binary w v) ≡ w
unfolding binary
binary-length zero v = refl
binary-length (suc w) v = ap suc (binary-length w v)

pub binary-digits : (w v : ℕ) → all is_binary_digit (binary w v) ≡ true
unfolding binary
binary-digits zero v = refl
binary-digits (suc w) v = rw (bit-digit (v / 2 ^ w % 2) (omega arith), binary-digits w v)
  where
    bit-digit : (b : ℕ) → b < 2 → is_binary_digit (48 + b) ≡ true
    bit-digit zero h = refl
    bit-digit (suc zero) h = refl
    bit-digit (suc (suc b)) h = absurd (omega arith)

pub decimal-some : (x : ℕ) → 0 < length (decimal x)
unfolding decimal
decimal-some x = rw (spelt x x (omega arith)).are (omega arith)

pub binary-is-digits : (w v : ℕ) → all is_digit (binary w v) ≡ true
unfolding binary
binary-is-digits zero v = refl
binary-is-digits (suc w) v = rw (bit-digit (v / 2 ^ w % 2) (omega arith), binary-is-digits w v)
  where
    bit-digit : (b : ℕ) → b < 2 → is_digit (48 + b) ≡ true
    bit-digit zero h = refl
    bit-digit (suc zero) h = refl
    bit-digit (suc (suc b)) h = absurd (omega arith)
