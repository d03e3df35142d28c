-- What a QF_BV script means in a model: SMT-LIB 2.6, its terms (3.3, 3.6), sorts (3.5) and commands (3.9). It has a part of the standard:
-- the commands set-logic (first, QF_BV), declare-const, define-fun with no parameters, assert and check-sat; the sorts Bool and
-- (_ BitVec m); binaries, names, and applications of the functions in the two tables of Functions.antt; every sort is checked, and a name
-- is given once. What is not named here is refused.
use Rattle.std.specs.Prelude.{Bool, true, false, cond, ◌&&◌, not, List, [], ◌∷◌, ℕ, zero, suc, ◌^◌, ltb, eqb}
use Rattle.std.proofs.Math.Option.{Option, some, none}
use Rattle.terms.specs.Display.{bytes}
use Rattle.script_meaning.specs.Sexp.{Sexp, word, list, Items, stop, ◌⨾◌}
use Rattle.script_meaning.specs.Read.{read}
use Rattle.facts.specs.Same.{same}
use Rattle.script_meaning.specs.Values.{and_then, when, is_none, Entry, ◌↦ᵉ◌, find, is_among, numeral, is_symbol, Meaning, meaning, literal}
use Rattle.script_meaning.specs.Functions.{functions, taken, indexed, one, two, three, applied, applied_at}

-- ---- terms

-- the spellings of items that are words
abbrev pub words : Items → Option (List (List ℕ))
words stop = some []
words (word w ⨾ xs) = and_then (words xs) λ ws. some (w ∷ ws)
words (list ys ⨾ xs) = none

abbrev pub numerals : List (List ℕ) → Option (List ℕ)
numerals [] = some []
numerals (w ∷ ws) = and_then (numeral w) λ j. and_then (numerals ws) λ js. some (j ∷ js)

-- a function: its name, or (_ name index ..)
abbrev pub indexed_by : List (List ℕ) → List Meaning → Option Meaning
indexed_by [] vs = none
indexed_by (u ∷ []) vs = none
indexed_by (u ∷ f ∷ ws) vs = and_then (when (same u (bytes "_")) f) λ f. and_then (find indexed f) λ o. and_then (numerals ws) λ js. applied_at o js vs

abbrev pub called : Sexp → List Meaning → Option Meaning
called (word f) vs = and_then (find functions f) λ o. applied o vs
called (list xs) vs = and_then (words xs) λ ws. indexed_by ws vs

-- a binary, or a name that is defined
abbrev pub atom : List (Entry Meaning) → List ℕ → Option Meaning
atom env w = cond (is_none (literal w)) (find env w) (literal w)

unfoldable mutual
  pub term : Sexp → List (Entry Meaning) → Option Meaning
  term (word w) env = atom env w
  term (list xs) env = application xs env

  pub application : Items → List (Entry Meaning) → Option Meaning
  application stop env = none
  application (f ⨾ xs) env = and_then (terms xs env) λ vs. called f vs

  pub terms : Items → List (Entry Meaning) → Option (List Meaning)
  terms stop env = some []
  terms (x ⨾ xs) env = and_then (term x env) λ v. and_then (terms xs env) λ vs. some (v ∷ vs)

-- ---- commands

abbrev pub vector_sort : List (List ℕ) → Option ℕ
vector_sort ws = three ws λ u b m. and_then (when (same u (bytes "_") && same b (bytes "BitVec")) m) λ m. and_then (numeral m) λ m. when (ltb 0 m) m

abbrev pub sort : Sexp → Option ℕ
sort (word w) = when (same w (bytes "Bool")) 0
sort (list xs) = and_then (words xs) vector_sort

pub data Command : Type 0 where
  declare define claim check : Command

unfoldable pub commands : List (Entry Command)
commands = bytes "declare-const" ↦ᵉ declare ∷ bytes "define-fun" ↦ᵉ define ∷ bytes "assert" ↦ᵉ claim ∷ bytes "check-sat" ↦ᵉ check ∷ []

-- what has been declared and defined, the newest first, and whether all assertions hold
pub record Script : Type 0 where
  pub defined : List (Entry Meaning)
  pub holds : Bool

abbrev pub script : List (Entry Meaning) → Bool → Script
script d h = record { defined = d; holds = h }

-- a symbol that means nothing yet: no word that is taken, no function, no name that was given before
abbrev pub is_fresh : List (Entry Meaning) → List ℕ → Bool
is_fresh env w = is_symbol w && not (is_among taken w) && is_none (find functions w) && is_none (find env w)

abbrev pub as_name : Sexp → Option (List ℕ)
as_name (word w) = some w
as_name (list xs) = none

abbrev pub is_stop : Sexp → Bool
is_stop (word w) = false
is_stop (list stop) = true
is_stop (list (x ⨾ xs)) = false

abbrev pub added : Script → List ℕ → Meaning → Option Script
added s n v = when (is_fresh s.defined n) (script (n ↦ᵉ v ∷ s.defined) s.holds)

abbrev pub parts : Items → List Sexp
parts stop = []
parts (x ⨾ xs) = x ∷ parts xs

-- (define-fun n () sort t)
abbrev pub defined : Script → List Sexp → Option Script
defined s [] = none
defined s (n ∷ []) = none
defined s (n ∷ ps ∷ []) = none
defined s (n ∷ ps ∷ m ∷ []) = none
defined s (n ∷ ps ∷ m ∷ t ∷ []) =
    and_then (as_name n) λ n.
    and_then (sort m) λ m.
    and_then (term t s.defined) λ v. and_then (when (is_stop ps && eqb v.sort m) v) λ v. added s n v
defined s (n ∷ ps ∷ m ∷ t ∷ x ∷ xs) = none

-- how many values a sort has
abbrev pub values_of : ℕ → ℕ
values_of zero = 2
values_of (suc m) = 2 ^ suc m

-- model has the value of each constant that is declared; if it gives one that its sort does not have, nothing is read
unfoldable pub done : (model : List ℕ → ℕ) → Command → List Sexp → Script → Option Script
done model declare xs s =
    two xs λ n m.
    and_then (as_name n) λ n. and_then (sort m) λ m. and_then (when (ltb (model n) (values_of m)) (meaning m (model n))) λ v. added s n v
done model define xs s = defined s xs
done model claim xs s =
    one xs λ t. and_then (term t s.defined) λ v. when (eqb v.sort 0) (script s.defined (s.holds && ltb 0 v.is))
done model check [] s = some s
done model check (x ∷ xs) s = none

abbrev pub command : (model : List ℕ → ℕ) → Sexp → Script → Option Script
command model (word w) s = none
command model (list stop) s = none
command model (list (list ys ⨾ xs)) s = none
command model (list (word c ⨾ xs)) s = and_then (find commands c) λ k. done model k (parts xs) s

unfoldable pub run : (model : List ℕ → ℕ) → Items → Script → Option Script
run model stop s = some s
run model (x ⨾ xs) s = and_then (command model x s) λ s. run model xs s

-- a script begins with (set-logic QF_BV)
abbrev pub is_logic : List (List ℕ) → Bool
is_logic [] = false
is_logic (a ∷ []) = false
is_logic (a ∷ b ∷ []) = same a (bytes "set-logic") && same b (bytes "QF_BV")
is_logic (a ∷ b ∷ c ∷ cs) = false

abbrev pub begun : (model : List ℕ → ℕ) → Items → Option Script
begun model stop = none
begun model (word w ⨾ xs) = none
begun model (list ys ⨾ xs) = and_then (words ys) λ ws. and_then (when (is_logic ws) xs) λ xs. run model xs (script [] true)

-- the bytes of a script, read and run at a start
unfoldable pub meant : (model : List ℕ → ℕ) → List ℕ → Option Script
meant model cs = and_then (read cs) λ xs. begun model xs
