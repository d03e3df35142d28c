-- The lines of a script by lanes.
use Rattle.std.specs.Prelude.{List, ◌++◌, ℕ}
use Rattle.terms.specs.Display.{bytes}
use Rattle.pool.specs.Node.{cell_at}
use Rattle.script_meaning.specs.Sexp.{show}
use Rattle.script_meaning.specs.Script.{node_name, sort_by, declare_const}
use Rattle.script_text.specs.Lines.{line_by}
use Rattle.script_lane_meaning.specs.LaneScript.{constant, equation, lane_claim}

-- the line that declares the constant of a node of w bits
abbrev pub constant_line : (n w : ℕ) → List ℕ
constant_line n w = show (declare_const (node_name n) (sort_by w)) ++ bytes "\n"

-- the line of a node's equation
abbrev pub equation_line : List ℕ → ℕ → List ℕ
equation_line ws n = show (equation ws n) ++ bytes "\n"

-- both; a Var has none
unfoldable pub lines_at : List ℕ → ℕ → List ℕ
lines_at ws n = line_by (cell_at ws n).kind (show (constant ws n) ++ bytes "\n") ++ line_by (cell_at ws n).kind (equation_line ws n)

-- the last two lines
abbrev pub lane_lines : List ℕ → (x y hi lo : ℕ) → List ℕ
lane_lines ws x y hi lo = show (lane_claim ws x y hi lo) ++ bytes "\n(check-sat)\n"
