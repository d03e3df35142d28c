-- What comes between two operands in the text of a node.
use Rattle.std.specs.Prelude.{List, [], ◌≡◌, ℕ, ◌≤◌, ◌<◌}
use Rattle.terms.specs.Display.{bytes, operator, comparison}
use Rattle.pool.specs.Node.{Kind, bad, var, const, bv, compare, ite, extract, concat, zext, sext, kind_at}

-- an operator of the kinds 3 to 14, and the comma of an Ite's arms and of a Concat
abbrev pub between_of : Kind → List ℕ
between_of bad = []
between_of var = []
between_of const = []
between_of (bv o) = operator o
between_of (compare o) = comparison o
between_of ite = bytes ", "
between_of extract = []
between_of concat = bytes ", "
between_of zext = []
between_of sext = []

unfoldable pub between_text : ℕ → List ℕ
between_text k = between_of (kind_at k)

-- the kinds in whose text something comes between two terms: 3 to 15, and 17
pub record Joined (k : ℕ) : Type 0 where
  pub from : 3 ≤ k
  pub to : k < 18
  pub no_extract : k ≡ 16 → ⊥
