-- What canonising a root answers, and what the output then holds (document 02, S-13).
use Rattle.std.specs.Prelude.{Bool, cond, List, ◌≡◌, ℕ, ◌+◌, ◌*◌, ◌≤◌, ◌<◌, leb, length, get_or, Result}
use Rattle.facts.specs.declared.Refusal.{Refusal}
use Rattle.facts.specs.Answer.{number_of, value_or}
use Rattle.facts.specs.Refuse.{unless}
use Rattle.pool.specs.Node.{kind_number, operand_word, places}
use Rattle.pool.specs.Rules.{node_number}
use Rattle.pool.specs.Unfold.{unfold_at}
use Rattle.pool_fields.specs.Fields.{op_a, op_b, op_c}
use Rattle.canonical.specs.Order.{postorder}
use Rattle.canonical.specs.Words.{canonical}
use Rattle.pool_operands.specs.Operands.{has_a, has_b, has_c}

-- what C is given: a number of README's table, and how many nodes are written
pub record Canonised : Type 0 where
  pub number : ℕ
  pub count : ℕ

abbrev pub canonised : Result ℕ Refusal → Canonised
canonised a = record { number = number_of a; count = value_or 0 a }

-- how many distinct subtrees there are
abbrev pub trees_at : List ℕ → ℕ → ℕ
trees_at ws root = length (postorder (unfold_at ws root))

-- 1, 5, 6
abbrev pub room_number : (ws : List ℕ) (root : ℕ) (out : List ℕ) → ℕ
room_number ws root out = unless (leb (trees_at ws root) (places out)) 6 0

unfoldable pub canonise_number : (ws : List ℕ) (count root : ℕ) (out : List ℕ) → ℕ
canonise_number ws count root out = node_number ws count root (room_number ws root out)

-- the first k nodes are those of the canonical pool, and the words after them are as they were
pub record Written (ws : List ℕ) (root k : ℕ) (old new : List ℕ) : Type 0 where
  pub long : length new ≡ length old
  pub words : (n r : ℕ) → n < k → r < 4 → get_or new (4 * n + r) 0 ≡ get_or (canonical (unfold_at ws root)) (4 * n + r) 0
  pub past : (i : ℕ) → 4 * k ≤ i → get_or new i 0 ≡ get_or old i 0

pub record Answered (ws : List ℕ) (count root : ℕ) (old new : List ℕ) (a : Canonised) : Type 0 where
  pub number : a.number ≡ canonise_number ws count root old
  pub refused : (a.number ≡ 0 → ⊥) → (a.count ≡ 0) × (new ≡ old)
  pub done : a.number ≡ 0 → (a.count ≡ trees_at ws root) × Written ws root a.count old new

-- ---- the parts

-- of a root of a pool that passes the check
pub record RootAnswered (ws : List ℕ) (root : ℕ) (old new : List ℕ) (a : Canonised) : Type 0 where
  pub number : a.number ≡ room_number ws root old
  pub refused : (a.number ≡ 0 → ⊥) → (a.count ≡ 0) × (new ≡ old)
  pub done : a.number ≡ 0 → (a.count ≡ trees_at ws root) × Written ws root a.count old new

abbrev pub number_if : Bool → List ℕ → List ℕ → ℕ → ℕ
number_if there class number m = cond there (get_or number (get_or class m 0) 0) 0

unfoldable pub new_operands : List ℕ → List ℕ → List ℕ → ℕ → ℕ
new_operands ws class number n =
    let kind = kind_number ws n in
    operand_word (number_if (has_a kind) class number (op_a ws n)) (number_if (has_b kind) class number (op_b ws n)) (number_if (has_c kind) class number (op_c ws n))

-- node j of the canonical pool is written, and nothing else
pub record OneMore (ws : List ℕ) (root j : ℕ) (old new : List ℕ) : Type 0 where
  pub long : length new ≡ length old
  pub word : (r : ℕ) → r < 4 → get_or new (4 * j + r) 0 ≡ get_or (canonical (unfold_at ws root)) (4 * j + r) 0
  pub before : (i : ℕ) → i < 4 * j → get_or new i 0 ≡ get_or old i 0
  pub past : (i : ℕ) → 4 * (j + 1) ≤ i → get_or new i 0 ≡ get_or old i 0
