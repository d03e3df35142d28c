-- What the lowering of a block answers, and what pool and map then hold (document 01, "Pool" and "The numbers").
use Rattle.std.specs.Prelude.{true, List, [], ◌∷◌, ◌≡◌, ℕ, ◌+◌, ◌*◌, ◌≤◌, ◌<◌, length, get_or}
use Rattle.std.specs.declared.result.Result.{Result}
use Rattle.facts.specs.declared.RefusedAt.{RefusedAt}
use Rattle.facts.specs.Answer.{number_at, position_at, value_or}
use Rattle.terms.specs.Expr.{Expr, Var}
use Rattle.neon.specs.declared.Instruction.{Instruction}
use Rattle.neon.specs.Refusal.{reserve, block_refusal}
use Rattle.trees.specs.Trees.{tree_step, tree_run}
use Rattle.pool.specs.Node.{var, Cell, cell_at, kind_number, places}
use Rattle.pool.specs.Rules.{Valid, pool_ok}
use Rattle.pool.specs.Growth.{Grown}
use Rattle.block_map.specs.declared.RegisterMap.{RegisterMap}
use Rattle.block_map.specs.Map.{first_map, no_map, written}
use Rattle.block_record.specs.Step.{MapOk, MapIs, Added}

-- node r is Var r
abbrev pub VarAt : List ℕ → ℕ → Type 0
VarAt ws r = ◌≡◌ {A = Cell} (cell_at ws r) (record { kind = var; width = 128; a = 0; b = 0; c = 0; x = r; y = 0 })

-- the records in order, each on the map and over the terms that the one before left: the nodes that it added, and its answer in the map
abbrev pub Lowered : List ℕ → RegisterMap → (ℕ → Expr) → List Instruction → RegisterMap → Type 0
Lowered ws m t [] m' = m' ≡ m
Lowered ws m t (c ∷ cs) m' = (answer : ℕ) × (k : ℕ) × Added ws m t c answer k × Lowered ws (written m c.d answer k) (tree_step c t) cs m'

-- a block that is accepted: nodes 0 to 31 are the registers, and no other is a Var
pub record Accepted (old : List ℕ) (cs : List Instruction) (new : List ℕ) (m : RegisterMap) : Type 0 where
  pub terms : MapIs new m (tree_run cs Var)
  pub checked : pool_ok new m.count ≡ true
  pub long : length new ≡ length old
  pub past : (i : ℕ) → 4 * m.count ≤ i → get_or new i 0 ≡ get_or old i 0
  pub vars : (r : ℕ) → r < 32 → VarAt new r
  pub plain : (n : ℕ) → 32 ≤ n → n < m.count → kind_number new n ≡ 1 → ⊥
  pub lowered : Lowered new first_map Var cs m

-- an answer as a number and a position, 0 and 0 where nothing is refused, and a map
pub record BlockAnswer : Type 0 where
  pub number : ℕ
  pub position : ℕ
  pub map : RegisterMap

-- a refusal's map has no node
abbrev pub answer_of : Result RegisterMap RefusedAt → BlockAnswer
answer_of r = record { number = number_at r; position = position_at r; map = value_or no_map r }

-- the answer for every block: its number and position; refused, no node and no word; else all of the above
pub record Answered (old : List ℕ) (cs : List Instruction) (new : List ℕ) (a : BlockAnswer) : Type 0 where
  pub number : a.number ≡ (block_refusal (places old) cs).number
  pub position : a.position ≡ (block_refusal (places old) cs).position
  pub refused : (a.number ≡ 0 → ⊥) → (a.map ≡ no_map) × (new ≡ old)
  pub accepted : a.number ≡ 0 → Accepted old cs new a.map

-- ---- the parts of the lowering

-- the first k registers are written
pub record Started (old new : List ℕ) (k : ℕ) : Type 0 where
  pub grown : Grown old 0 new k
  pub valid : Valid new k
  pub vars : (r : ℕ) → r < k → VarAt new r

pub record RunMade (old : List ℕ) (m : RegisterMap) (new : List ℕ) (m' : RegisterMap) (cs : List Instruction) (t : ℕ → Expr) : Type 0 where
  pub grown : Grown old m.count new m'.count
  pub valid : Valid new m'.count
  pub is : MapIs new m' (tree_run cs t)
  pub lowered : Lowered new m t cs m'

-- records in order: the numbers, whatever the pool holds; and what a valid pool and registers of known terms become
pub record Runs (old : List ℕ) (m : RegisterMap) (new : List ℕ) (m' : RegisterMap) (cs : List Instruction) : Type 0 where
  pub long : length new ≡ length old
  pub most : m'.count ≤ m.count + reserve * length cs
  pub map_ok : MapOk m'
  pub made : {t : ℕ → Expr} → Valid old m.count → MapIs old m t → RunMade old m new m' cs t
