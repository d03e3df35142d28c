-- Numerals, binaries and symbols of SMT-LIB 2.6 (3.1), what a name stands for, and the values of the sorts Bool and (_ BitVec m)
-- (theories Core and FixedSizeBitVectors).
use Rattle.std.specs.Prelude.{Bool, true, false, cond, ◌&&◌, ◌||◌, not, List, [], ◌∷◌, ℕ, ◌+◌, ◌-◌, ◌*◌, eqb, length}
use Rattle.std.proofs.Math.Option.{Option, some, none}
use Rattle.facts.specs.Same.{same}
use Rattle.terms.specs.Display.{bytes}
use Rattle.script_meaning.specs.Read.{is_in, is_digit, is_symbolic}

-- ---- may be missing

abbrev pub and_then : {A B : Type 0} → Option A → (A → Option B) → Option B
and_then (some a) k = k a
and_then none k = none

abbrev pub when : {A : Type 0} → Bool → A → Option A
when true a = some a
when false a = none

abbrev pub is_none : {A : Type 0} → Option A → Bool
is_none (some a) = false
is_none none = true

-- ---- names

pub record Entry (A : Type 0) : Type 0 where
  pub name : List ℕ
  pub is : A

infix 70 ◌↦ᵉ◌
abbrev pub ◌↦ᵉ◌ : {A : Type 0} → List ℕ → A → Entry A
n ↦ᵉ a = record { name = n; is = a }

-- the first entry of a name
unfoldable pub find : {A : Type 0} → List (Entry A) → List ℕ → Option A
find [] n = none
find (e ∷ es) n = cond (same e.name n) (some e.is) (find es n)

abbrev pub is_among : List (List ℕ) → List ℕ → Bool
is_among [] n = false
is_among (w ∷ ws) n = same w n || is_among ws n

-- ---- numerals and binaries

abbrev pub all : (ℕ → Bool) → List ℕ → Bool
all p [] = true
all p (c ∷ cs) = p c && all p cs

-- the number of digits in base b, after those that make x
unfoldable pub number : ℕ → ℕ → List ℕ → ℕ
number b x [] = x
number b x (c ∷ cs) = number b (b * x + (c - 48)) cs

-- 0, or digits that do not begin with 0
abbrev pub is_numeral : List ℕ → Bool
is_numeral [] = false
is_numeral (c ∷ []) = is_digit c
is_numeral (c ∷ d ∷ cs) = all is_digit (c ∷ d ∷ cs) && not (eqb c 48)

abbrev pub numeral : List ℕ → Option ℕ
numeral cs = when (is_numeral cs) (number 10 0 cs)

abbrev pub is_binary_digit : ℕ → Bool
is_binary_digit c = eqb c 48 || eqb c 49

-- a simple symbol of a script (3.1): letters, digits and other characters; the first is no digit, and neither @ nor ., which solvers keep for themselves
abbrev pub is_symbol : List ℕ → Bool
is_symbol [] = false
is_symbol (c ∷ cs) = not (is_digit c) && not (is_in c (bytes "@.")) && all is_symbolic (c ∷ cs)

-- ---- values

-- a Bool has the sort 0 and is 1 or 0; a (_ BitVec m) has the sort m
pub record Meaning : Type 0 where
  pub sort : ℕ
  pub is : ℕ

abbrev pub meaning : ℕ → ℕ → Meaning
meaning m x = record { sort = m; is = x }

-- #b and at least one digit
abbrev pub literal : List ℕ → Option Meaning
literal [] = none
literal (a ∷ []) = none
literal (a ∷ b ∷ []) = none
literal (a ∷ b ∷ c ∷ cs) =
    when (eqb a 35 && eqb b 98 && all is_binary_digit (c ∷ cs)) (meaning (length (c ∷ cs)) (number 2 0 (c ∷ cs)))
