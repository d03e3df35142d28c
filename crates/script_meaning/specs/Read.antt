-- How SMT-LIB 2.6 reads bytes as s-expressions (3.1, 3.2). It is read from the last byte to the first: a list's parts then are in order
-- as they come. Comments, strings and quoted symbols are left out: a text with one is not read.
use Rattle.std.specs.Prelude.{Bool, false, cond, ◌&&◌, ◌||◌, List, [], ◌∷◌, ℕ, leb, eqb}
use Rattle.std.proofs.Math.Option.{Option, some, none}
use Rattle.terms.specs.Display.{bytes}
use Rattle.script_meaning.specs.Sexp.{word, list, Items, stop, ◌⨾◌}

abbrev pub is_in : ℕ → List ℕ → Bool
is_in c [] = false
is_in c (x ∷ xs) = eqb c x || is_in c xs

-- tab, line feed, carriage return, blank
abbrev pub is_blank : ℕ → Bool
is_blank c = is_in c (9 ∷ 10 ∷ 13 ∷ 32 ∷ [])

abbrev pub is_digit : ℕ → Bool
is_digit c = leb 48 c && leb c 57

abbrev pub is_letter : ℕ → Bool
is_letter c = leb 65 c && leb c 90 || leb 97 c && leb c 122

-- the characters of simple symbols
abbrev pub is_symbolic : ℕ → Bool
is_symbolic c = is_digit c || is_letter c || is_in c (bytes "~!@$%^&*_-+=<>.?/")

-- the characters of words: of symbols, numerals, binaries and keywords
abbrev pub is_plain : ℕ → Bool
is_plain c = is_symbolic c || is_in c (bytes "#:")

-- what follows the place that is reached: the rest of a word, the items after it in its list, and the items after each list about that
pub data Reading : Type 0 where
  at : (spelt : List ℕ) (items : Items) (outer : List Items) → Reading
  broken : Reading

-- a word ends at a blank or a bracket
abbrev pub ended : List ℕ → Items → Items
ended [] xs = xs
ended (c ∷ w) xs = word (c ∷ w) ⨾ xs

abbrev pub parted : Reading → Reading
parted (at w xs out) = at [] (ended w xs) out
parted broken = broken

abbrev pub opened : Reading → Reading
opened (at w xs []) = broken
opened (at w xs (ys ∷ out)) = at w (list xs ⨾ ys) out
opened broken = broken

abbrev pub closed : Reading → Reading
closed (at w xs out) = at w stop (xs ∷ out)
closed broken = broken

abbrev pub spelt : ℕ → Reading → Reading
spelt c (at w xs out) = at (c ∷ w) xs out
spelt c broken = broken

abbrev pub read_byte : ℕ → Reading → Reading
read_byte c r =
    cond (is_plain c) (spelt c r)
    (cond (is_blank c) (parted r) (cond (eqb c 40) (opened (parted r)) (cond (eqb c 41) (closed (parted r)) broken)))

unfoldable pub reading : List ℕ → Reading
reading [] = at [] stop []
reading (c ∷ cs) = read_byte c (reading cs)

-- every bracket has its other
abbrev pub whole : Reading → Option Items
whole (at w xs []) = some (ended w xs)
whole (at w xs (ys ∷ out)) = none
whole broken = none

unfoldable pub read : List ℕ → Option Items
read cs = whole (reading cs)
