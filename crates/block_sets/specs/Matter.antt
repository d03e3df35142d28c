-- "Does v7 matter to v0 after this routine?" (document 02, S-4): the set in v0's node answers, of the Arm run itself.
use Rattle.std.specs.Prelude.{List, ◌≡◌, ℕ, ◌<◌}
use Rattle.terms.specs.Expr.{Var}
use Rattle.terms.specs.Registers.{registers, InSet, Agree}
use Rattle.neon.specs.declared.Instruction.{Instruction}
use Rattle.neon.specs.Run.{arm_run}
use Rattle.trees.specs.Trees.{tree_run}
use Rattle.pool.specs.Node.{set_at}
use Rattle.block_map.specs.Map.{node_of}
use Rattle.block.specs.Block.{BlockAnswer, Answered}

-- the set in the node of register r, in the pool as the lowering left it
abbrev pub set_after : List ℕ → BlockAnswer → ℕ → ℕ
set_after new a r = set_at new (node_of a.map r)

-- after every accepted block it is the set of the register's term
abbrev pub SetAfterBlock : Type 0
SetAfterBlock =
    (old : List ℕ) (cs : List Instruction) (new : List ℕ) (a : BlockAnswer) → Answered old cs new a → a.number ≡ 0 → (r : ℕ) → r < 32
    → set_after new a r ≡ registers (tree_run cs Var r)

-- two starts that agree on that set leave the same number in register r after the Arm run
abbrev pub AgreeingRuns : Type 0
AgreeingRuns =
    (old : List ℕ) (cs : List Instruction) (new : List ℕ) (a : BlockAnswer) → Answered old cs new a → a.number ≡ 0 → (r : ℕ) → r < 32
    → (start start' : ℕ → ℕ) → Agree start start' (set_after new a r) → arm_run cs start r ≡ arm_run cs start' r

-- so a register x that is not in it does not matter to register r: starts that differ in x alone leave the same there
abbrev pub OthersDoNotMatterAfter : Type 0
OthersDoNotMatterAfter =
    (old : List ℕ) (cs : List Instruction) (new : List ℕ) (a : BlockAnswer) → Answered old cs new a → a.number ≡ 0 → (r : ℕ) → r < 32
    → (x : ℕ) → (InSet x (set_after new a r) → ⊥) → (start start' : ℕ → ℕ) → ((y : ℕ) → (y ≡ x → ⊥) → start y ≡ start' y)
    → arm_run cs start r ≡ arm_run cs start' r
