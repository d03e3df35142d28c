-- How many gates a pool's nodes take at most, and what one node more makes.
use Rattle.std.specs.Prelude.{Bool, false, List, ◌≡◌, ℕ, zero, suc, ◌+◌, ◌*◌, ◌≤◌, length}
use Rattle.terms.specs.declared.BinOp.{BinOp}
use Rattle.terms.specs.declared.BinOp.TheVariants.{Add, Sub, Mul, And, Or, Xor, Shl, LShr, AShr}
use Rattle.terms.specs.declared.CmpOp.{CmpOp}
use Rattle.terms.specs.declared.CmpOp.TheVariants.{Eq, Ult, Slt}
use Rattle.terms.specs.Value.{apply, holds}
use Rattle.pool.specs.Node.{Kind, bad, var, const, bv, compare, ite, extract, concat, zext, sext, kind_at, kind_number, width_at}
use Rattle.pool_fields.specs.Fields.{op_a}
use Rattle.gates.specs.Grow.{Grown, Room}
use Rattle.gates_pool.specs.Bits.{Held, Placed}

-- the most gates of an operator of w bits
abbrev pub gates_of_bv : BinOp → ℕ → ℕ
gates_of_bv Add w = 7 * w
gates_of_bv Sub w = 10 * w
gates_of_bv Mul w = 10 * w * w
gates_of_bv And w = 3 * w
gates_of_bv Or w = 3 * w
gates_of_bv Xor w = 3 * w
gates_of_bv Shl w = 31 * w
gates_of_bv LShr w = 31 * w
gates_of_bv AShr w = 31 * w

-- and of a comparison of two numbers of w bits
abbrev pub gates_of_compare : CmpOp → ℕ → ℕ
gates_of_compare Eq w = 4 * w
gates_of_compare Ult w = 5 * w
gates_of_compare Slt w = 5 * w + 6

abbrev pub gates_for : Kind → ℕ → ℕ
gates_for bad w = 0
gates_for var w = 0
gates_for const w = 0
gates_for (bv o) w = gates_of_bv o w
gates_for (compare o) w = gates_of_compare o w
gates_for ite w = 3 * w
gates_for extract w = 0
gates_for concat w = 0
gates_for zext w = 0
gates_for sext w = 0

-- the bits that a node of w bits works on: a comparison's are those of its first operand, of a bits
abbrev pub work_width : Kind → (w a : ℕ) → ℕ
work_width bad w a = w
work_width var w a = w
work_width const w a = w
work_width (bv o) w a = w
work_width (compare o) w a = a
work_width ite w a = w
work_width extract w a = w
work_width concat w a = w
work_width zext w a = w
work_width sext w a = w

unfoldable pub gates_at : List ℕ → ℕ → ℕ
gates_at ws n =
    let kind = kind_at (kind_number ws n) in gates_for kind (work_width kind (width_at ws n) (width_at ws (op_a ws n)))

-- of the nodes below n
unfoldable pub gates_in : List ℕ → ℕ → ℕ
gates_in ws zero = 0
gates_in ws (suc n) = gates_in ws n + gates_at ws n

-- ---- one node more

-- the value of an operator of w bits, and whether a comparison holds
abbrev pub bv_value : Kind → (w s t : ℕ) → ℕ
bv_value bad w s t = 0
bv_value var w s t = 0
bv_value const w s t = 0
bv_value (bv o) w s t = apply o w s t
bv_value (compare o) w s t = 0
bv_value ite w s t = 0
bv_value extract w s t = 0
bv_value concat w s t = 0
bv_value zext w s t = 0
bv_value sext w s t = 0

abbrev pub compare_holds : Kind → (w s t : ℕ) → Bool
compare_holds bad w s t = false
compare_holds var w s t = false
compare_holds const w s t = false
compare_holds (bv o) w s t = false
compare_holds (compare o) w s t = holds o w s t
compare_holds ite w s t = false
compare_holds extract w s t = false
compare_holds concat w s t = false
compare_holds zext w s t = false
compare_holds sext w s t = false

-- what node n is made from
pub record Ready (ws : List ℕ) (n : ℕ) (g : List ℕ) (k : ℕ) (bits : List ℕ) : Type 0 where
  pub placed : Placed ws n bits
  pub room : Room g k (gates_at ws n)
  pub held : Held ws n g k bits

-- and what there is then
pub record Made (ws : List ℕ) (n : ℕ) (g : List ℕ) (k : ℕ) (bits : List ℕ) (g' : List ℕ) (k' : ℕ) (bits' : List ℕ) : Type 0 where
  pub grown : Grown g k g' k'
  pub most : k' ≤ k + gates_at ws n
  pub size : length bits' ≡ length bits
  pub held : Held ws (n + 1) g' k' bits'

-- all nodes below n are made, after k gates
pub record Nodes (ws : List ℕ) (n : ℕ) (g : List ℕ) (k : ℕ) (bits g' : List ℕ) (k' : ℕ) (bits' : List ℕ) : Type 0 where
  pub grown : Grown g k g' k'
  pub most : k' ≤ k + gates_in ws n
  pub size : length bits' ≡ length bits
  pub held : Held ws n g' k' bits'
