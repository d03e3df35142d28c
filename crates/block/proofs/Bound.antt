-- The nodes of an accepted block, record by record. Assumes nothing.
use Prim.Native.Nat.{ℕ, ◌+◌, ◌*◌, ◌≤◌}
use mathlib.Core.Path.{sym, ◌∙◌}
use mathlib.Core.List.{List, [], ◌∷◌}
use native.Mathlib.Omega.{arith}
use lib.ListN.{length}
use Rattle.terms.specs.Expr.{Expr, Var}
use Rattle.neon.specs.declared.Instruction.{Instruction}
use Rattle.neon.specs.Refusal.{reserve}
use Rattle.trees.specs.Trees.{tree_step}
use Rattle.pool.specs.Node.{places}
use Rattle.block_map.specs.declared.RegisterMap.{RegisterMap}
use Rattle.block_map.specs.Map.{first_map, written}
use Rattle.block_check.proofs.Refusals.{block-legal}
use Rattle.block.specs.Block.{Lowered}
use Rattle.block.specs.Bound.{BlockAdds}

lowered-most : (ws : List ℕ) (m : RegisterMap) (t : ℕ → Expr) (cs : List Instruction) (m' : RegisterMap) → Lowered ws m t cs m'
    → m'.count ≤ m.count + reserve * length cs
lowered-most ws m t [] m' h = rw h (omega arith)
lowered-most ws m t (c ∷ cs) m' h = omega (arith, h.2.most, lowered-most ws (written m c.d h.0 h.1) (tree_step c t) cs m' h.3)

pub block-adds : BlockAdds
block-adds old cs new a h z =
    let legal = block-legal (places old) cs (sym h.number ∙ z) in
    (legal.0, lowered-most new first_map Var cs a.map (h.accepted z).lowered)
