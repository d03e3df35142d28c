-- The two digits of a number below 100 in its word of four pairs, by one computed test, and what two digits written are. Assumes nothing.
use mathlib.Core.Path.{◌≡◌, refl, sym, ap, ◌∙◌, subst}
use mathlib.Core.Bool.{Bool, true, ◌&&◌}
use mathlib.Core.List.{List, [], ◌∷◌, ◌++◌, append_assoc}
use Prim.Native.Nat.{ℕ, zero, suc, ◌+◌, ◌*◌, ◌-◌, ◌/◌, ◌%◌, ◌^◌, ◌≤◌, ◌<◌}
use mathlib.Core.Logic.{⊎_elim}
use native.Mathlib.Numerals.{add-one}
use native.Mathlib.Omega.{arith}
use native.Mathlib.Nat.{not-suc-le-zero, le_of_suc-le-suc, eq-or-lt_of_le}
use lib.Dec.{eqb}
use lib.ListN.{set}
use borrow.Author.Tests.{eqb-true, lt-ltb}
use Rattle.facts.proofs.Tests.{and_both}
use Rattle.terms.specs.Display.{digit}
use Rattle.text_digits.specs.Writing.{Wrote}
use Rattle.text_digits.specs.Pairs.{pair_of, four_pairs}
use Rattle.text_digits.proofs.Laws.{digits, digits-one, digits_more}

-- a test of every number below n
all : ℕ → (ℕ → Bool) → Bool
all zero f = true
all (suc n) f = all n f && f n

all-at : (n : ℕ) (f : ℕ → Bool) → all n f ≡ true → (x : ℕ) → x < n → f x ≡ true
unfolding all
all-at zero f h x l = absurd (not-suc-le-zero l)
all-at (suc n) f h x l =
    let p = and_both (all n f) (f n) h in
    ⊎_elim (λ e. subst (λ (k : ℕ). f k ≡ true) (sym e) p.1) (λ k. all-at n f p.0 x k) (eq-or-lt_of_le (le_of_suc-le-suc l))

-- the pair of x, as code takes it out of a word
abbrev pub taken : ℕ → ℕ
taken x = four_pairs (x / 4) / 2 ^ (16 * (x % 4)) % 65536

right : ℕ → Bool
right x = eqb (taken x) (pair_of x)

pub pair-at : (x : ℕ) → x < 100 → taken x ≡ pair_of x
unfolding right all four_pairs
pair-at x l = eqb-true (taken x) (pair_of x) (all-at 100 right refl x l)

pub decimal_digit : (d : ℕ) → d < 10 → digit d ≡ 48 + d
decimal_digit d l = rw (lt-ltb d 10 l)

-- the two characters are bytes
pub low_byte : (x : ℕ) → x < 100 → pair_of x % 256 ≡ digit (x / 10)
low_byte x l = omega (arith, decimal_digit (x / 10) (omega arith), decimal_digit (x % 10) (omega arith))

pub high_byte : (x : ℕ) → x < 100 → pair_of x / 256 ≡ digit (x % 10)
high_byte x l = omega (arith, decimal_digit (x / 10) (omega arith), decimal_digit (x % 10) (omega arith))

-- hexadecimal digits: two, and two after others
-- two digits to any base
two-of : (b x : ℕ) → 2 ≤ b → b ≤ x → x / b < b → digits b x ≡ digit (x / b) ∷ digit (x % b) ∷ []
two-of b x hb h l = digits_more b x hb h ∙ ap (λ (s : List ℕ). s ++ (digit (x % b) ∷ [])) (digits-one b (x / b) l)

pub two-sixteens : (x : ℕ) → 16 ≤ x → x < 256 → digits 16 x ≡ digit (x / 16) ∷ digit (x % 16) ∷ []
two-sixteens x h l = two-of 16 x (omega arith) h (omega arith)

pub byte_more : (x : ℕ) → 256 ≤ x → digits 16 x ≡ digits 16 (x / 256) ++ (digit (x % 256 / 16) ∷ digit (x % 256 % 16) ∷ [])
byte_more x h =
    let q : x / 16 / 16 ≡ x / 256 = omega arith in
    let t : x / 16 % 16 ≡ x % 256 / 16 = omega arith in
    let o : x % 16 ≡ x % 256 % 16 = omega arith in
    digits_more 16 x (omega arith) (omega arith)
    ∙ ap (λ (s : List ℕ). s ++ (digit (x % 16) ∷ [])) (digits_more 16 (x / 16) (omega arith) (omega arith))
    ∙ append_assoc (digits 16 (x / 16 / 16)) (digit (x / 16 % 16) ∷ []) (digit (x % 16) ∷ [])
    ∙ rw (q, t, o)

-- decimal digits: two, and three that begin with 1
pub two_digits : (x : ℕ) → 10 ≤ x → x < 100 → digits 10 x ≡ digit (x / 10) ∷ digit (x % 10) ∷ []
two_digits x h l = two-of 10 x (omega arith) h (omega arith)

pub three-digits : (x : ℕ) → 100 ≤ x → x < 200 → digits 10 x ≡ 49 ∷ digit ((x - 100) / 10) ∷ digit ((x - 100) % 10) ∷ []
three-digits x h l =
    let t : x / 10 - 10 ≡ (x - 100) / 10 = omega arith in
    let o : x % 10 ≡ (x - 100) % 10 = omega arith in
    let q : x / 10 / 10 ≡ 1 = omega arith in
    let r : x / 10 % 10 ≡ (x - 100) / 10 = omega arith in
    digits_more 10 x (omega arith) (omega arith)
    ∙ ap (λ (s : List ℕ). s ++ (digit (x % 10) ∷ [])) (two_digits (x / 10) (omega arith) (omega arith))
    ∙ (rw (q, r, o))

pub wrote-both : (l : List ℕ) (i : ℕ) {p q a b : ℕ} → p ≡ a → q ≡ b → Wrote l i (a ∷ b ∷ []) (i + 2) (set (set l i p) (i + 1) q)
wrote-both l i e f = record { next_is = refl; after_is = rw (e, f, add-one i) }
