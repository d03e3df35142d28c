-- A node's operands, as numbers.
use Rattle.std.specs.Prelude.{cond, List, ℕ, eqb}
use Rattle.pool.specs.Node.{cell_at, kind_number}

abbrev pub op_a : List ℕ → ℕ → ℕ
op_a ws n = (cell_at ws n).a

abbrev pub op_b : List ℕ → ℕ → ℕ
op_b ws n = (cell_at ws n).b

abbrev pub op_c : List ℕ → ℕ → ℕ
op_c ws n = (cell_at ws n).c

-- the two operands with an operator or a comma between them in the text: of an Ite those after its condition
abbrev pub left_of : List ℕ → ℕ → ℕ
left_of ws n = cond (eqb (kind_number ws n) 15) (op_b ws n) (op_a ws n)

abbrev pub right_of : List ℕ → ℕ → ℕ
right_of ws n = cond (eqb (kind_number ws n) 15) (op_c ws n) (op_b ws n)
