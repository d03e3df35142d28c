-- Two pools as one (document 02, S-11): the first pool's nodes, the second's without its registers, renumbered, and an Eq.
use Rattle.std.specs.Prelude.{Bool, cond, ◌&&◌, List, ◌≡◌, ℕ, ◌+◌, ◌-◌, ◌*◌, ◌≤◌, ◌<◌, ltb, leb, eqb, length, get_or, Result}
use Rattle.std.specs.declared.result.Result.TheVariants.{Ok, Err}
use Rattle.facts.specs.declared.Refusal.{Refusal}
use Rattle.facts.specs.Answer.{code}
use Rattle.std.specs.Int.Bits.{bit_or}
use Rattle.facts.specs.Refuse.{unless}
use Rattle.pool.specs.Node.{a_of, b_of, c_of, word_at, kind_number, set_at, kind_word, operand_word, write_node, places, none}
use Rattle.pool.specs.Rules.{pool_ok, of_width}
use Rattle.pool_operands.specs.Operands.{has_a, has_b, has_c}
use Rattle.join.specs.Starts.{starts_with_registers}
use Rattle.join.specs.declared.JoinedPool.{JoinedPool}

-- what C is given: a number of README's table, the Eq, and how many nodes there are with it
pub record Joined : Type 0 where
  pub number : ℕ
  pub node : ℕ
  pub count : ℕ

abbrev pub joined : Result JoinedPool Refusal → Joined
joined (Ok p) = record { number = 0; node = p.node.0; count = p.count }
joined (Err r) = record { number = code r; node = none; count = 0 }

-- the number in the joined pool of the second pool's node m; the first has c nodes
abbrev pub moved : ℕ → ℕ → ℕ
moved c m = cond (ltb m 32) m (m + c - 32)

abbrev pub moved_if : Bool → ℕ → ℕ → ℕ
moved_if there c m = cond there (moved c m) m

-- word 1 of a node of the second pool
abbrev pub moved_word : ℕ → ℕ → ℕ → ℕ
moved_word c kind w1 = operand_word (moved_if (has_a kind) c (a_of w1)) (moved_if (has_b kind) c (b_of w1)) (moved_if (has_c kind) c (c_of w1))

-- how many nodes there are with the Eq
abbrev pub join_count : ℕ → ℕ → ℕ
join_count c d = c + d - 31

-- the registers beneath the Eq: those of either term
abbrev pub eq_set : (first second : List ℕ) (x y : ℕ) → ℕ
eq_set first second x y = bit_or (set_at first x) (set_at second y)

-- word j of node n of the joined pool: of the first pool; of the second; of the Eq of x and of the second's y
unfoldable pub join_word : (first : List ℕ) (c : ℕ) (second : List ℕ) (d x y n j : ℕ) → ℕ
join_word first c second d x y n j =
    let m = n + 32 - c in
    cond (ltb n c) (word_at first n j)
    (cond (ltb n (c + d - 32)) (cond (eqb j 1) (moved_word c (kind_number second m) (word_at second m 1)) (word_at second m j))
    (cond (eqb j 0) (kind_word 12 0 (eq_set first second x y)) (cond (eqb j 1) (operand_word x (moved c y) 0) 0)))

-- 1 for the first pool, then for the second; 5; 6
unfoldable pub join_number : (first : List ℕ) (c : ℕ) (second : List ℕ) (d x y : ℕ) (out : List ℕ) → ℕ
join_number first c second d x y out =
    unless (pool_ok first c && starts_with_registers first c) 1
    (unless (pool_ok second d && starts_with_registers second d) 1
    (unless (of_width first c x 128 && of_width second d y 128) 5 (unless (leb (join_count c d) (places out)) 6 0)))

-- done: every word below the count; the others are as they were
pub record Done (first : List ℕ) (c : ℕ) (second : List ℕ) (d x y : ℕ) (old new : List ℕ) (a : Joined) : Type 0 where
  pub node : a.node ≡ c + d - 32
  pub count : a.count ≡ join_count c d
  pub long : length new ≡ length old
  pub words : (n j : ℕ) → n < join_count c d → j < 4 → get_or new (4 * n + j) 0 ≡ join_word first c second d x y n j
  pub past : (i : ℕ) → 4 * join_count c d ≤ i → get_or new i 0 ≡ get_or old i 0

pub record Answered (first : List ℕ) (c : ℕ) (second : List ℕ) (d x y : ℕ) (old new : List ℕ) (a : Joined) : Type 0 where
  pub number : a.number ≡ join_number first c second d x y old
  pub refused : (a.number ≡ 0 → ⊥) → (a.node ≡ none) × (a.count ≡ 0) × (new ≡ old)
  pub done : a.number ≡ 0 → Done first c second d x y old new a

-- ---- the parts

-- word 1 of a node of the second pool, whatever its kind. In a valid pool it is moved_word: an operand that the kind has not is 0.
abbrev pub moved_parts : ℕ → ℕ → ℕ
moved_parts c w1 = operand_word (moved c (a_of w1)) (moved c (b_of w1)) (moved c (c_of w1))

-- the first pool's words are copied, up to word i
pub record Half (first : List ℕ) (old new : List ℕ) (i : ℕ) : Type 0 where
  pub long : length new ≡ length old
  pub words : (j : ℕ) → j < i → get_or new j 0 ≡ get_or first j 0
  pub past : (j : ℕ) → i ≤ j → get_or new j 0 ≡ get_or old j 0

-- the nodes up to n are those of the joined pool
pub record SecondAt (first : List ℕ) (c : ℕ) (second : List ℕ) (d x y : ℕ) (old new : List ℕ) (n : ℕ) : Type 0 where
  pub long : length new ≡ length old
  pub words : (m j : ℕ) → m < n → j < 4 → get_or new (4 * m + j) 0 ≡ join_word first c second d x y m j
  pub past : (i : ℕ) → 4 * n ≤ i → get_or new i 0 ≡ get_or old i 0

abbrev pub write_moved : ℕ → List ℕ → ℕ → List ℕ → List ℕ
write_moved c second m out =
    write_node out (m + c - 32) (get_or second (4 * m) 0) (moved_parts c (word_at second m 1)) (word_at second m 2) (word_at second m 3)

abbrev pub write_eq : (first : List ℕ) (c : ℕ) (second : List ℕ) (d x y : ℕ) → List ℕ → List ℕ
write_eq first c second d x y out = write_node out (c + d - 32) (kind_word 12 0 (eq_set first second x y)) (operand_word x (moved c y) 0) 0 0
