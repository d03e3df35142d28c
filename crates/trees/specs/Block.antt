-- The terms of a block's registers (document 01, "Pool"): how a record reads them, its term, and the map after it. cut is the cutter.
use Rattle.std.specs.Prelude.{Bool, cond, List, [], ◌∷◌, ℕ}
use Rattle.terms.specs.Expr.{Expr, ZeroExtend}
use Rattle.neon.specs.declared.Instruction.{Instruction}
use Rattle.neon.specs.Op.{op_at, arrangement_at, full}
use Rattle.neon.specs.Form.{form, first_full, second_full, by_element}
use Rattle.neon.specs.Run.{update}
use Rattle.trees.specs.Simd.{Cutter}
use Rattle.trees.specs.Neon.{result_tree}

-- a register as it is read: whole, or its low half
abbrev pub read_tree : Cutter → Bool → Expr → Expr
read_tree cut whole x = cond whole x (cut.bits x 63 0)

-- a result of 64 bits is widened
abbrev pub widen_tree : Bool → Expr → Expr
widen_tree whole x = cond whole x (ZeroExtend x 128)

-- the term that a record writes, over the terms that the registers have
unfoldable pub record_tree : Cutter → Instruction → (ℕ → Expr) → Expr
record_tree cut c regs =
    let o = op_at c.operation in
    let v = arrangement_at c.arrangement in
    let l = (form o).lanes in
    widen_tree (full v)
    (result_tree cut o v c.i (read_tree cut (full v) (regs c.d)) (read_tree cut (first_full l (full v)) (regs c.n))
    (read_tree cut (second_full l (by_element o) (full v)) (regs c.m)))

unfoldable pub tree_step : Cutter → Instruction → (ℕ → Expr) → ℕ → Expr
tree_step cut c regs = update c.d (record_tree cut c regs) regs

unfoldable pub tree_run : Cutter → List Instruction → (ℕ → Expr) → ℕ → Expr
tree_run cut [] regs = regs
tree_run cut (c ∷ cs) regs = tree_run cut cs (tree_step cut c regs)
