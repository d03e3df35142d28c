-- The second form of a pool's script: for every node that is no Var a constant of its own and an asserted equation, in number order; then an
-- assertion that two nodes differ in the bits from hi down to lo. Names, sorts and terms are those of S-1's form.
use Rattle.std.specs.Prelude.{List, ℕ, zero, suc}
use Rattle.terms.specs.Display.{bytes}
use Rattle.pool.specs.Node.{cell_at, width_at}
use Rattle.script_meaning.specs.Sexp.{Sexp, word, Items, stop, ◌⨾◌, show_lines}
use Rattle.script_meaning.specs.Script.{node_name, name_of, apply1, apply_to, index2, term_of, sort_by, declare_const, assertion, defined_by, declarations, set_logic, check_sat}

-- (declare-const n40 (_ BitVec 64))
abbrev pub constant : List ℕ → ℕ → Sexp
constant ws n = declare_const (node_name n) (sort_by (width_at ws n))

-- (= n40 (bvlshr n38 n39))
abbrev pub equality : List ℕ → ℕ → Sexp
equality ws n = apply_to (bytes "=") (word (node_name n)) (term_of ws n)

abbrev pub equation : List ℕ → ℕ → Sexp
equation ws n = assertion (equality ws n)

-- the constants and equations of k nodes from node n on, and what follows them; a Var has none
unfoldable pub equations : List ℕ → (k n : ℕ) → Items → Items
equations ws zero n rest = rest
equations ws (suc k) n rest =
    defined_by (cell_at ws n).kind (constant ws n) (defined_by (cell_at ws n).kind (equation ws n) (equations ws k (suc n) rest))

-- ((_ extract hi lo) n40)
abbrev pub lane_of : List ℕ → (hi lo x : ℕ) → Sexp
lane_of ws hi lo x = apply1 (index2 (bytes "extract") hi lo) (name_of ws x)

abbrev pub lanes_differ : List ℕ → (x y hi lo : ℕ) → Sexp
lanes_differ ws x y hi lo = apply_to (bytes "distinct") (lane_of ws hi lo x) (lane_of ws hi lo y)

abbrev pub lane_claim : List ℕ → (x y hi lo : ℕ) → Sexp
lane_claim ws x y hi lo = assertion (lanes_differ ws x y hi lo)

unfoldable pub lane_commands : List ℕ → (count x y hi lo : ℕ) → Items
lane_commands ws count x y hi lo = set_logic ⨾ declarations 32 0 (equations ws count 0 (lane_claim ws x y hi lo ⨾ check_sat ⨾ stop))

-- the bytes of the script that asks whether nodes x and y differ in the bits from hi down to lo
unfoldable pub lane_script_of : List ℕ → (count x y hi lo : ℕ) → List ℕ
lane_script_of ws count x y hi lo = show_lines (lane_commands ws count x y hi lo)
