-- What one record of a block does to the pool and to the map of the registers (document 01, "Pool").
use Rattle.std.specs.Prelude.{true, List, ◌⊎◌, ◌≡◌, ℕ, ◌+◌, ◌≤◌, ◌<◌, length}
use Rattle.terms.specs.Expr.{Expr}
use Rattle.neon.specs.declared.Instruction.{Instruction}
use Rattle.neon.specs.Op.{op_at, arrangement_at, full}
use Rattle.neon.specs.Form.{form, has_second, reads_d, by_element, first_full, second_full}
use Rattle.neon.specs.Refusal.{reserve, record_nodes}
use Rattle.trees.specs.Trees.{record_tree, tree_step}
use Rattle.pool.specs.Rules.{Valid}
use Rattle.pool.specs.Growth.{Reach, Grown, NodeIs}
use Rattle.block_map.specs.declared.RegisterMap.{RegisterMap}
use Rattle.block_map.specs.Map.{node_of, written}
use Rattle.block_reads.specs.Reads.{LowHalf, half_read}

-- the map has 32 entries, each below the count
pub record MapOk (m : RegisterMap) : Type 0 where
  pub size : length m.nodes ≡ 32
  pub below : (r : ℕ) → r < 32 → node_of m r < m.count

-- the registers have 128 bits and the terms t
abbrev pub MapIs : List ℕ → RegisterMap → (ℕ → Expr) → Type 0
MapIs ws m t = (r : ℕ) → r < 32 → NodeIs ws m.count (node_of m r) 128 (t r)

-- node x is the record's read of a low half: of n, then of m, then of d, if its form reads them so
abbrev pub RegisterRead : List ℕ → RegisterMap → Instruction → ℕ → Type 0
RegisterRead ws m c x =
    let o = op_at c.operation in
    let v = arrangement_at c.arrangement in
    let after-n = m.count + half_read true (first_full (form o).lanes (full v)) in
    let after-m = after-n + half_read (has_second o) (second_full (form o).lanes (by_element o) (full v)) in
    ((x < after-n) × LowHalf ws (node_of m c.n) x)
    ⊎ ((after-n ≤ x) × (x < after-m) × LowHalf ws (node_of m c.m) x)
    ⊎ ((after-m ≤ x) × (x < after-m + half_read (reads_d o v) (full v)) × LowHalf ws (node_of m c.d) x)

-- the nodes of a record, from the map's count to count k': its answer, of 128 bits, has the record's term over the registers' terms t;
-- at most the reserve are added, each reached from the answer save its reads of registers
pub record Added (ws : List ℕ) (m : RegisterMap) (t : ℕ → Expr) (c : Instruction) (answer k' : ℕ) : Type 0 where
  pub more : m.count ≤ k'
  pub most : k' ≤ m.count + reserve
  pub is : NodeIs ws k' answer 128 (record_tree c t)
  pub all : (x : ℕ) → m.count ≤ x → x < k' → Reach ws answer x ⊎ RegisterRead ws m c x

pub record StepMade (old : List ℕ) (m : RegisterMap) (new : List ℕ) (m' : RegisterMap) (c : Instruction) (t : ℕ → Expr) : Type 0 where
  pub grown : Grown old m.count new m'.count
  pub valid : Valid new m'.count
  pub is : MapIs new m' (tree_step c t)
  pub added : Added new m t c (node_of m' c.d) m'.count

-- the numbers, whatever the pool holds; and what a valid pool and registers of known terms become
pub record Steps (old : List ℕ) (m : RegisterMap) (new : List ℕ) (m' : RegisterMap) (c : Instruction) : Type 0 where
  pub long : length new ≡ length old
  pub more : m.count ≤ m'.count
  pub most : m'.count ≤ m.count + record_nodes
  pub map_ok : MapOk m'
  pub map_is : m' ≡ written m c.d (node_of m' c.d) m'.count
  pub made : {t : ℕ → Expr} → Valid old m.count → MapIs old m t → StepMade old m new m' c t
