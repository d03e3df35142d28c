-- The text of a node, and its parts: what comes before its operands, and what after the only one; what comes between two
-- is `between_text`.
use Rattle.std.specs.Prelude.{Bool, ◌||◌, List, [], ◌++◌, ℕ, ◌+◌, ◌*◌, ◌<◌, eqb, leb, length}
use Rattle.terms.specs.Display.{bytes, decimal, display}
use Rattle.pool.specs.Node.{Kind, bad, var, const, bv, compare, ite, extract, concat, zext, sext, kind_at, width_at, word_at, kind_number}
use Rattle.pool.specs.Rules.{Valid}
use Rattle.pool.specs.Unfold.{unfold_at}

-- the text of node n
unfoldable pub text : List ℕ → ℕ → List ℕ
text ws n = display (unfold_at ws n)

-- what comes before the operands
abbrev pub open_of : Kind → List ℕ
open_of bad = []
open_of var = []
open_of const = []
open_of (bv o) = bytes "("
open_of (compare o) = bytes "("
open_of ite = bytes "ite("
open_of extract = []
open_of concat = bytes "concat("
open_of zext = bytes "zext("
open_of sext = bytes "sext("

unfoldable pub open_text : ℕ → List ℕ
open_text k = open_of (kind_at k)

-- the bits of an Extract, and the width of an extension
abbrev pub range_text : ℕ → ℕ → List ℕ
range_text hi lo = bytes "[" ++ (decimal hi ++ (bytes ":" ++ (decimal lo ++ bytes "]")))

abbrev pub width_text : ℕ → List ℕ
width_text w = bytes ", " ++ (decimal w ++ bytes ")")

-- what comes after an only operand; x and y are words 2 and 3, w is the width
abbrev pub end_of : Kind → (x y w : ℕ) → List ℕ
end_of bad x y w = []
end_of var x y w = []
end_of const x y w = []
end_of (bv o) x y w = []
end_of (compare o) x y w = []
end_of ite x y w = []
end_of extract x y w = range_text x y
end_of concat x y w = []
end_of zext x y w = width_text w
end_of sext x y w = width_text w

unfoldable pub end_text : List ℕ → ℕ → List ℕ
end_text ws n = end_of (kind_at (kind_number ws n)) (word_at ws n 2) (word_at ws n 3) (width_at ws n)

-- of the kinds with operands, 3 to 19, Extract and the extensions have one
abbrev pub single : ℕ → Bool
single k = eqb k 16 || leb 18 k

-- nodes 0 to n are in the pool and keep its rules
pub record Ready (ws : List ℕ) (n : ℕ) : Type 0 where
  pub inside : 4 * n + 3 < length ws
  pub valid : Valid ws (n + 1)
