-- The block's bit after a record.
use Rattle.std.specs.Prelude.{List, [], ◌∷◌, ℕ}
use Rattle.terms.specs.Expr.{Expr}
use Rattle.neon.specs.Op.{op_at, arrangement_at, full}
use Rattle.neon.specs.Form.{form, first_full, second_full, by_element}
use Rattle.trees.specs.Trees.{read_tree}
use Rattle.pool.specs.declared.Node.{Node}
use Rattle.pool.specs.declared.Built.{Built}
use Rattle.pool.specs.Rules.{Valid}
use Rattle.pool.specs.Growth.{NodeIs}
use Rattle.pool_nodes.specs.Builders.{Takes, Makes}
use Rattle.saturation.specs.Bits.{saturation_tree}
use Rattle.saturation_bits.specs.Lanes.{bits_most}

-- `record_bit`, over whole registers of the terms td, ta and tb: each new node and the bit before it are reached
pub record RecordBit (old : List ℕ) (k : ℕ) (new : List ℕ) (r : Built) (operation arrangement i : ℕ) (d first second before : Node) : Type 0 where
  pub sized : Takes old k new r bits_most
  pub made : {td ta tb t : Expr} → Valid old k → NodeIs old k d.0 128 td → NodeIs old k first.0 128 ta → NodeIs old k second.0 128 tb
      → NodeIs old k before.0 1 t
      → Makes old k new r 1
      (saturation_tree (op_at operation) (arrangement_at arrangement) i (read_tree (full (arrangement_at arrangement)) td)
      (read_tree (first_full (form (op_at operation)).lanes (full (arrangement_at arrangement))) ta)
      (read_tree (second_full (form (op_at operation)).lanes (by_element (op_at operation)) (full (arrangement_at arrangement))) tb) t)
      (before.0 ∷ [])
