-- A walk over the classes beneath a root: what is numbered, what waits.
use Rattle.std.specs.Prelude.{Bool, true, cond, ◌&&◌, List, [], ◌∷◌, ◌++◌, ◌≡◌, ℕ, zero, suc, ◌+◌, ◌*◌, ◌≤◌, ◌<◌, eqb, length, get_or}
use Rattle.terms.specs.Expr.{Expr}
use Rattle.pool.specs.Node.{kind_number, none}
use Rattle.pool.specs.Unfold.{unfold_at}
use Rattle.pool_fields.specs.Fields.{op_a, op_b, op_c}
use Rattle.canonical.specs.Order.{walk, place, add_all, postorder, AllIn}
use Rattle.pool_operands.specs.Operands.{has_a, has_b, has_c}
use Rattle.canonical_classes.specs.Class.{Long}

abbrev pub pick : Bool → ℕ → List ℕ → ℕ → ℕ
pick there m number rest = cond (there && eqb (get_or number m 0) 65535) m rest

-- the classes of a node's operands
abbrev pub class_a : List ℕ → List ℕ → ℕ → ℕ
class_a ws class n = get_or class (op_a ws n) 0

abbrev pub class_b : List ℕ → List ℕ → ℕ → ℕ
class_b ws class n = get_or class (op_b ws n) 0

abbrev pub class_c : List ℕ → List ℕ → ℕ → ℕ
class_c ws class n = get_or class (op_c ws n) 0

unfoldable pub next_open : List ℕ → List ℕ → List ℕ → ℕ → ℕ
next_open ws class number n =
    let k = kind_number ws n in
    pick (has_a k) (class_a ws class n) number (pick (has_b k) (class_b ws class n) number (pick (has_c k) (class_c ws class n) number none))

abbrev pub AllNone : List ℕ → Type 0
AllNone number = (m : ℕ) → m < 65536 → get_or number m 0 ≡ 65535

-- the terms of the first k nodes of an order
unfoldable pub listed : List ℕ → List ℕ → ℕ → List Expr
listed ws order zero = []
listed ws order (suc j) = listed ws order j ++ (unfold_at ws (get_or order j 0) ∷ [])

-- the terms after all that waits, from the top of the stack down
unfoldable pub pending : List ℕ → List ℕ → ℕ → List Expr → List Expr
pending ws stack zero l = l
pending ws stack (suc d) l = pending ws stack d (add_all l (walk (unfold_at ws (get_or stack d 0))))

abbrev pub Set : List ℕ → ℕ → Type 0
Set number m = get_or number m 0 ≡ 65535 → ⊥

-- the operands of node n have numbers
pub record Ready (ws class number : List ℕ) (n : ℕ) : Type 0 where
  pub a_set : has_a (kind_number ws n) ≡ true → Set number (class_a ws class n)
  pub b_set : has_b (kind_number ws n) ≡ true → Set number (class_b ws class n)
  pub c_set : has_c (kind_number ws n) ≡ true → Set number (class_c ws class n)

-- node m has its number: the place of its tree, and all beneath it have theirs
pub record Done (ws class number : List ℕ) (l : List Expr) (m : ℕ) : Type 0 where
  pub own : get_or class m 0 ≡ m
  pub number_is : get_or number m 0 ≡ place l (unfold_at ws m)
  pub beneath : AllIn l (walk (unfold_at ws m))
  pub ready : Ready ws class number m

-- how many of the nodes below n have no number
unfoldable pub unnumbered : List ℕ → ℕ → ℕ
unnumbered number zero = 0
unnumbered number (suc m) = cond (eqb (get_or number m 0) 65535) 1 0 + unnumbered number m

pub record Walking (ws class : List ℕ) (root : ℕ) (number order : List ℕ) (k : ℕ) (stack : List ℕ) (depth : ℕ) : Type 0 where
  pub number_long : Long number
  pub order_long : Long order
  pub stack_long : Long stack
  pub few : k + unnumbered number (root + 1) ≡ root + 1
  pub done : (m : ℕ) → m ≤ root → Set number m → Done ws class number (listed ws order k) m
  pub node : (j : ℕ) → j < k → (get_or order j 0 ≤ root) × Set number (get_or order j 0) × (get_or number (get_or order j 0) 0 ≡ j)
  pub deep : (i : ℕ) → i < depth → get_or stack i 0 + i ≤ root
  pub falling : (i j : ℕ) → i < j → j < depth → get_or stack j 0 < get_or stack i 0
  pub waits : (i : ℕ) → i < depth → (get_or class (get_or stack i 0) 0 ≡ get_or stack i 0) × (get_or number (get_or stack i 0) 0 ≡ 65535)
  pub left : pending ws stack depth (listed ws order k) ≡ postorder (unfold_at ws root)

-- what falls with every turn
abbrev pub top : List ℕ → ℕ → ℕ
top stack zero = 0
top stack (suc d) = suc (get_or stack d 0)

abbrev pub work : ℕ → List ℕ → List ℕ → ℕ → ℕ
work root number stack depth = 65536 * unnumbered number (root + 1) + top stack depth

pub record Stepped (ws class : List ℕ) (root : ℕ) (number₀ stack₀ : List ℕ) (depth₀ : ℕ) (number order : List ℕ) (k : ℕ) (stack : List ℕ) (depth : ℕ) : Type 0 where
  pub walking : Walking ws class root number order k stack depth
  pub less : work root number stack depth < work root number₀ stack₀ depth₀

-- the end of the walk
pub record Numbered (ws class : List ℕ) (root : ℕ) (number order : List ℕ) (k : ℕ) : Type 0 where
  pub count : k ≡ length (postorder (unfold_at ws root))
  pub few : k ≤ root + 1
  pub terms : listed ws order k ≡ postorder (unfold_at ws root)
  pub node : (j : ℕ) → j < k → (get_or order j 0 ≤ root) × Set number (get_or order j 0) × (get_or number (get_or order j 0) 0 ≡ j)
  pub done : (m : ℕ) → m ≤ root → Set number m → Done ws class number (postorder (unfold_at ws root)) m
