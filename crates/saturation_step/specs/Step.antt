-- What a record with its saturation bit does to the pool, to the map of the registers and to the block's bit (document 02, S-12).
use Rattle.std.specs.Prelude.{List, ◌≡◌, ℕ, ◌+◌, ◌≤◌, ◌<◌, length}
use Rattle.terms.specs.Expr.{Expr}
use Rattle.neon.specs.declared.Instruction.{Instruction}
use Rattle.trees.specs.Trees.{tree_step}
use Rattle.pool.specs.declared.Node.{Node}
use Rattle.pool.specs.Rules.{Valid}
use Rattle.pool.specs.Growth.{Reach, Grown, NodeIs}
use Rattle.block_map.specs.declared.RegisterMap.{RegisterMap}
use Rattle.block_map.specs.Map.{node_of, written}
use Rattle.block_record.specs.Step.{MapOk, MapIs, Added}
use Rattle.saturation.specs.Bits.{record_bit}
use Rattle.saturation_step.specs.declared.Flagged.{Flagged}

-- the nodes that document 02 gives an instruction
abbrev pub flag_reserve : ℕ
flag_reserve = 2048

-- a map with a higher count
abbrev pub raised : RegisterMap → ℕ → RegisterMap
raised m k = record { nodes = m.nodes; count = k }

-- the nodes of a record with its bit, from the map's count to count k: first those of the bit, to count middle, each reached from the
-- block's bit `last`; then the record's, as in every block; at most the reserve
pub record FlagAdded (ws : List ℕ) (last : ℕ) (m : RegisterMap) (t : ℕ → Expr) (c : Instruction) (middle answer k : ℕ) : Type 0 where
  pub from : m.count ≤ middle
  pub bits : (x : ℕ) → m.count ≤ x → x < middle → Reach ws last x
  pub added : Added ws (raised m middle) t c answer k
  pub most : k ≤ m.count + flag_reserve

-- the bit before the record's is reached from it
pub record FlagMade (old : List ℕ) (m : RegisterMap) (before : Node) (new : List ℕ) (f : Flagged) (c : Instruction) (t : ℕ → Expr) (b : Expr) : Type 0 where
  pub grown : Grown old m.count new f.map.count
  pub valid : Valid new f.map.count
  pub is : MapIs new f.map (tree_step c t)
  pub bit_is : NodeIs new f.map.count f.bit.0 1 (record_bit c t b)
  pub earlier : Reach new f.bit.0 before.0
  pub middle : ℕ
  pub map_is : f.map ≡ written (raised m middle) c.d (node_of f.map c.d) f.map.count
  pub added : FlagAdded new f.bit.0 m t c middle (node_of f.map c.d) f.map.count

pub record Flags (old : List ℕ) (m : RegisterMap) (before : Node) (new : List ℕ) (f : Flagged) (c : Instruction) : Type 0 where
  pub long : length new ≡ length old
  pub most : f.map.count ≤ m.count + flag_reserve
  pub map_ok : MapOk f.map
  pub under : f.bit.0 < f.map.count
  pub made : {t : ℕ → Expr} {b : Expr} → Valid old m.count → MapIs old m t → NodeIs old m.count before.0 1 b → FlagMade old m before new f c t b
