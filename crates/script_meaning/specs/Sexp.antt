-- S-expressions of SMT-LIB 2.6 (3.2), as a script spells them: single blanks between the parts of a list, none after an opening or
-- before a closing bracket, and one command per line.
use Rattle.std.specs.Prelude.{List, [], ◌++◌, ℕ}
use Rattle.terms.specs.Display.{bytes}

infixr 67 ◌⨾◌
mutual
  -- a symbol, a numeral or a binary, as it is spelt; or a list
  pub data Sexp : Type 0 where
    word : List ℕ → Sexp
    list : Items → Sexp

  pub data Items : Type 0 where
    stop : Items
    ◌⨾◌ : Sexp → Items → Items

unfoldable mutual
  pub show : Sexp → List ℕ
  show (word w) = w
  show (list xs) = bytes "(" ++ (show_all xs ++ bytes ")")

  pub show_all : Items → List ℕ
  show_all stop = []
  show_all (x ⨾ xs) = show x ++ show_more xs

  pub show_more : Items → List ℕ
  show_more stop = []
  show_more (x ⨾ xs) = bytes " " ++ (show x ++ show_more xs)

unfoldable pub show_lines : Items → List ℕ
show_lines stop = []
show_lines (x ⨾ xs) = show x ++ (bytes "\n" ++ show_lines xs)
