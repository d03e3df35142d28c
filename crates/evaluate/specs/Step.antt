-- One visit: the value of a node from its operands' values, and what is left of the visits allowed.
use Rattle.std.specs.Prelude.{cond, List, ◌≡◌, ℕ, suc, ◌+◌, ◌-◌, ◌*◌, ◌/◌, ◌%◌, ◌^◌, ◌<◌, ◌≤◌, get_or}
use Rattle.terms.specs.Value.{apply, holds, bit, bvsext}
use Rattle.pool.specs.Node.{Kind, bad, var, const, bv, compare, ite, extract, concat, zext, sext, kind_at, kind_number, width_at, word_at}
use Rattle.pool_fields.specs.Fields.{op_a, op_b}
use Rattle.text_parts.specs.Text.{single}
use Rattle.wide.specs.Number.{words}
use Rattle.evaluate.specs.Visits.{value_at, visits_at}

-- the number that three words of a list hold
abbrev pub held : List ℕ → ℕ
held v = words (get_or v 0 0) (get_or v 1 0) (get_or v 2 0)

-- the entries of the start are words
abbrev pub InWords : List ℕ → Type 0
InWords regs = (i : ℕ) → get_or regs i 0 < 2 ^ 64

-- what is left of so many visits, the node's own apart; if something is left, the value is there
pub record Visited (ws regs : List ℕ) (n left : ℕ) (out : List ℕ) (r : ℕ) : Type 0 where
  pub left_is : r ≡ left + 1 - visits_at ws regs n
  pub value_is : 0 < r → held out ≡ value_at ws regs n

-- the value of a node with operands that is no Ite: wa and wb are its operands' widths, a and b their values, w is its own width,
-- x and y are words 2 and 3
abbrev pub node_value : Kind → (wa wb w x y a b : ℕ) → ℕ
node_value bad wa wb w x y a b = 0
node_value var wa wb w x y a b = 0
node_value const wa wb w x y a b = 0
node_value (bv o) wa wb w x y a b = apply o wa a b
node_value (compare o) wa wb w x y a b = bit (holds o wa a b)
node_value ite wa wb w x y a b = 0
node_value extract wa wb w x y a b = a / 2 ^ y % 2 ^ suc (x - y)
node_value concat wa wb w x y a b = a * 2 ^ wb + b
node_value zext wa wb w x y a b = a
node_value sext wa wb w x y a b = bvsext wa w a

-- what the rules say of such a node, and of its operands' values
abbrev pub OperandsOf : Kind → (wa wb w x y a b : ℕ) → Type 0
OperandsOf bad wa wb w x y a b = ⊥
OperandsOf var wa wb w x y a b = ⊥
OperandsOf const wa wb w x y a b = ⊥
OperandsOf (bv o) wa wb w x y a b = (0 < wa) × (wa ≤ 129) × (a < 2 ^ wa) × (b < 2 ^ wa)
OperandsOf (compare o) wa wb w x y a b = (0 < wa) × (wa ≤ 129)
OperandsOf ite wa wb w x y a b = ⊥
OperandsOf extract wa wb w x y a b = (y ≤ x) × (x < 129)
OperandsOf concat wa wb w x y a b = (wa + wb ≤ 129) × (a < 2 ^ wa) × (b < 2 ^ wb)
OperandsOf zext wa wb w x y a b = Unit {0}
OperandsOf sext wa wb w x y a b = (0 < wa) × (wa ≤ w) × (w ≤ 129) × (a < 2 ^ wa)

-- of node n; a second operand that it has not has the width 0
abbrev pub second_width : List ℕ → ℕ → ℕ
second_width ws n = cond (single (kind_number ws n)) 0 (width_at ws (op_b ws n))

abbrev pub applied_at : List ℕ → ℕ → (a b : ℕ) → ℕ
applied_at ws n a b = node_value (kind_at (kind_number ws n)) (width_at ws (op_a ws n)) (second_width ws n) (width_at ws n) (word_at ws n 2) (word_at ws n 3) a b

abbrev pub OperandsAt : List ℕ → ℕ → (a b : ℕ) → Type 0
OperandsAt ws n a b = OperandsOf (kind_at (kind_number ws n)) (width_at ws (op_a ws n)) (second_width ws n) (width_at ws n) (word_at ws n 2) (word_at ws n 3) a b
