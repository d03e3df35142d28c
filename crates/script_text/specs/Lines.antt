-- The line of a node in a script.
use Rattle.std.specs.Prelude.{List, [], ◌++◌, ℕ, ◌<◌}
use Rattle.terms.specs.Display.{bytes}
use Rattle.pool.specs.Node.{Kind, bad, var, const, bv, compare, ite, extract, concat, zext, sext, cell_at}
use Rattle.text_parts.specs.Text.{Ready}
use Rattle.script_meaning.specs.Sexp.{Sexp, show}
use Rattle.script_meaning.specs.Script.{register_name, name_of, sort_by, apply2, declare_const, assertion, definition}

-- a Var has none
abbrev pub line_by : Kind → List ℕ → List ℕ
line_by bad s = s
line_by var s = []
line_by const s = s
line_by (bv o) s = s
line_by (compare o) s = s
line_by ite s = s
line_by extract s = s
line_by concat s = s
line_by zext s = s
line_by sext s = s

unfoldable pub line_at : List ℕ → ℕ → List ℕ
line_at ws n = line_by (cell_at ws n).kind (show (definition ws n) ++ bytes "\n")

-- the line that declares a register
abbrev pub declaration : ℕ → Sexp
declaration r = declare_const (register_name r) (sort_by 128)

abbrev pub declaration_line : ℕ → List ℕ
declaration_line r = show (declaration r) ++ bytes "\n"

-- the last two lines
abbrev pub claim_lines : List ℕ → (x y : ℕ) → List ℕ
claim_lines ws x y = show (assertion (apply2 (bytes "distinct") (name_of ws x) (name_of ws y))) ++ bytes "\n(check-sat)\n"

-- each node below count may be written
abbrev pub AllReady : List ℕ → ℕ → Type 0
AllReady ws count = (n : ℕ) → n < count → Ready ws n
