-- The sets after a block, by the set of a node, demand 3 and starts that agree. Assumes nothing.
use mathlib.Core.Path.{◌≡◌, sym, ap, subst, ◌∙◌}
use mathlib.Core.List.{List}
use Prim.Native.Nat.{ℕ, ◌<◌}
use Rattle.terms.specs.Expr.{Expr}
use Rattle.terms.specs.Registers.{registers, InSet, Agree}
use Rattle.neon.specs.declared.Instruction.{Instruction}
use Rattle.pool.specs.Unfold.{unfold_at}
use Rattle.block_map.specs.Map.{node_of}
use Rattle.pool_registers.proofs.Matter.{set-is-the-walk, agreeing-starts}
use Rattle.block.specs.Block.{BlockAnswer, Answered}
use Rattle.block.proofs.Equal.{registers-hold}
use Rattle.block_sets.specs.Matter.{set_after, SetAfterBlock, AgreeingRuns, OthersDoNotMatterAfter}

-- the set is that of the unfolded node
node-set : (old : List ℕ) (cs : List Instruction) (new : List ℕ) (a : BlockAnswer) → Answered old cs new a → a.number ≡ 0 → (r : ℕ) → r < 32
    → set_after new a r ≡ registers (unfold_at new (node_of a.map r))
node-set old cs new a h z r l =
    let done = h.accepted z in
    set-is-the-walk new a.map.count (node_of a.map r) done.checked (done.terms r l).under

pub set-after-block : SetAfterBlock
set-after-block old cs new a h z r l = node-set old cs new a h z r l ∙ ap (λ (t : Expr). registers t) ((h.accepted z).terms r l).tree

pub agreeing-runs : AgreeingRuns
agreeing-runs old cs new a h z r l start start' agree =
    let on-term : Agree start start' (registers (unfold_at new (node_of a.map r))) =
    subst (λ (s : ℕ). Agree start start' s) (node-set old cs new a h z r l) agree in
    registers-hold old cs new a h z start r l
    ∙ agreeing-starts (unfold_at new (node_of a.map r)) start start' on-term
    ∙ sym (registers-hold old cs new a h z start' r l)

pub others-do-not-matter-after : OthersDoNotMatterAfter
others-do-not-matter-after old cs new a h z r l x absent start start' same =
    agreeing-runs old cs new a h z r l start start' (λ y i. same y (λ e. absent (subst (λ (s : ℕ). InSet s (set_after new a r)) e i)))
