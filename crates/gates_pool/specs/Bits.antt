-- The bits of a pool's nodes as literals of a graph: those of node n are at the places from 129 n on, the lowest first; a condition has one.
use Rattle.std.specs.Prelude.{cond, List, ◌≡◌, ℕ, zero, suc, ◌+◌, ◌-◌, ◌*◌, ◌/◌, ◌%◌, ◌^◌, ◌≤◌, ◌<◌, ltb, length, get_or}
use Rattle.terms.specs.Value.{value}
use Rattle.pool.specs.Node.{Kind, bad, var, const, bv, compare, ite, extract, concat, zext, sext, Cell, cell_at, kind_at, kind_number, width_at, wide}
use Rattle.pool.specs.Unfold.{unfold_at}
use Rattle.pool_fields.specs.Fields.{op_a, op_b}
use Rattle.text_parts.specs.Text as nodes
use Rattle.gates_words.specs.Number.{number}
use Rattle.gates_words.specs.Words.{Low}

-- a start of 128-bit registers
abbrev pub Start : (ℕ → ℕ) → Type 0
Start start = (r : ℕ) → r < 32 → start r < 2 ^ 128

-- how many literals a node of width w has
abbrev pub literals : ℕ → ℕ
literals zero = 1
literals (suc w) = suc w

-- the number that those of node n make at a start
abbrev pub number_at : (ℕ → ℕ) → (ws g bits : List ℕ) → ℕ → ℕ
number_at start ws g bits n = number start g bits (129 * n) (literals (width_at ws n))

-- the nodes below n have literals of a graph with k gates, whose numbers are their values at every start
pub record Held (ws : List ℕ) (n : ℕ) (g : List ℕ) (k : ℕ) (bits : List ℕ) : Type 0 where
  pub low : (m : ℕ) → m < n → Low bits (129 * m) (literals (width_at ws m)) k
  pub is : (start : ℕ → ℕ) → Start start → (m : ℕ) → m < n → number_at start ws g bits m ≡ value start (unfold_at ws m)

-- ---- nodes that need no gates

-- bit j of a node over its operands' literals: A and B are their widths
abbrev pub wire_of : Kind → Cell → (A B : ℕ) → List ℕ → ℕ → ℕ
wire_of bad k A B bits j = 0
wire_of var k A B bits j = 2 * (1 + 128 * k.x + j)
wire_of const k A B bits j = wide k.x k.y / 2 ^ j % 2
wire_of (bv o) k A B bits j = 0
wire_of (compare o) k A B bits j = 0
wire_of ite k A B bits j = 0
wire_of extract k A B bits j = get_or bits (129 * k.a + (k.y + j)) 0
wire_of concat k A B bits j = cond (ltb j B) (get_or bits (129 * k.b + j) 0) (get_or bits (129 * k.a + (j - B)) 0)
wire_of zext k A B bits j = cond (ltb j A) (get_or bits (129 * k.a + j) 0) 0
wire_of sext k A B bits j = cond (ltb j A) (get_or bits (129 * k.a + j) 0) (get_or bits (129 * k.a + (A - 1)) 0)

abbrev pub wire_at : (ws bits : List ℕ) (n j : ℕ) → ℕ
wire_at ws bits n j = wire_of (kind_at (kind_number ws n)) (cell_at ws n) (width_at ws (op_a ws n)) (width_at ws (op_b ws n)) bits j

-- a node of a valid pool, with places for its literals, and for those of one node more: circuits use them on the way
pub record Placed (ws : List ℕ) (n : ℕ) (bits : List ℕ) : Type 0 where
  pub node : nodes.Ready ws n
  pub places : 129 * (n + 2) ≤ length bits

-- whether it needs no gates
abbrev pub NoGates : List ℕ → ℕ → Type 0
NoGates ws n = 3 ≤ kind_number ws n → 16 ≤ kind_number ws n
