-- What the records of a block do to the pool, to the map of the registers and to the block's bit.
use Rattle.std.specs.Prelude.{List, [], ◌∷◌, ◌≡◌, ℕ, ◌+◌, ◌*◌, ◌≤◌, ◌<◌, length}
use Rattle.terms.specs.Expr.{Expr, Var}
use Rattle.neon.specs.declared.Instruction.{Instruction}
use Rattle.trees.specs.Trees.{tree_step, tree_run}
use Rattle.pool.specs.Rules.{Valid}
use Rattle.pool.specs.Growth.{Reach, Grown, NodeIs}
use Rattle.block_map.specs.declared.RegisterMap.{RegisterMap}
use Rattle.block_map.specs.Map.{first_map, written}
use Rattle.block_record.specs.Step.{MapOk, MapIs}
use Rattle.block.specs.Block.{VarAt}
use Rattle.saturation.specs.Bits.{no, bit_run}
use Rattle.saturation_step.specs.declared.Flagged.{Flagged}
use Rattle.saturation_step.specs.Step.{raised, flag_reserve, FlagAdded}

-- the records in order, each on the map and over the terms that the one before left: the nodes of its bit, reached from the block's bit
-- `last`, and then its own, and its answer in the map
abbrev pub FlagLowered : List ℕ → (last : ℕ) → RegisterMap → (ℕ → Expr) → List Instruction → RegisterMap → Type 0
FlagLowered ws last m t [] m' = m' ≡ m
FlagLowered ws last m t (c ∷ cs) m' =
    (middle : ℕ) × (answer : ℕ) × (k : ℕ) × FlagAdded ws last m t c middle answer k
    × FlagLowered ws last (written (raised m middle) c.d answer k) (tree_step c t) cs m'

pub record FlagRunMade (old : List ℕ) (f : Flagged) (new : List ℕ) (f' : Flagged) (cs : List Instruction) (t : ℕ → Expr) (b : Expr) : Type 0 where
  pub grown : Grown old f.map.count new f'.map.count
  pub valid : Valid new f'.map.count
  pub is : MapIs new f'.map (tree_run cs t)
  pub bit_is : NodeIs new f'.map.count f'.bit.0 1 (bit_run cs t b)
  pub earlier : Reach new f'.bit.0 f.bit.0
  pub lowered : FlagLowered new f'.bit.0 f.map t cs f'.map

pub record FlagRuns (old : List ℕ) (f : Flagged) (new : List ℕ) (f' : Flagged) (cs : List Instruction) : Type 0 where
  pub long : length new ≡ length old
  pub most : f'.map.count ≤ f.map.count + flag_reserve * length cs
  pub map_ok : MapOk f'.map
  pub under : f'.bit.0 < f'.map.count
  pub made : {t : ℕ → Expr} {b : Expr} → Valid old f.map.count → MapIs old f.map t → NodeIs old f.map.count f.bit.0 1 b
      → FlagRunMade old f new f' cs t b

-- the start: the registers, and the constant 0 at node 32
pub record FlagStarted (old new : List ℕ) (f : Flagged) : Type 0 where
  pub map_is : f.map ≡ raised first_map 33
  pub bit_at : f.bit.0 ≡ 32
  pub grown : Grown old 0 new 33
  pub valid : Valid new 33
  pub vars : (r : ℕ) → r < 32 → VarAt new r
  pub is : MapIs new (raised first_map 33) Var
  pub bit_is : NodeIs new 33 32 1 no
