-- `leaf` gives the value of a Var, the register's two words at the start, or of a Const, words 2 and 3.
use native.Mathlib.Omega.{arith}
use mathlib.Core.List.{List}
use mathlib.Core.Path.{◌≡◌, sym, ◌∙◌}
use Prim.Native.Nat.{ℕ, ◌<◌}
use Rattle.pool.specs.Node.{kind_number, word_at}
use Rattle.text_parts.specs.Text.{Ready}
use Rattle.text_parts.proofs.Operands.{is-const}
use Rattle.evaluate.proofs.Values.{leaf-var, leaf-register, leaf-const, two-words}
use Rattle.evaluate.proofs.leaf.Goals as goal

-- of a Var, word 2 is a register
register : {p : List ℕ} (start : List ℕ) {n k r : ℕ} → Ready p n → k ≡ kind_number p n → k ≡ 1 → r ≡ word_at p n 2 → r < 32
register start ready is-k var same = rw same (leaf-register _ start _ ready _ is-k var)

pub overflow_mul-result : goal.overflow_mul-result
overflow_mul-result c = omega (arith, register c.args.start.now c.requires.0 c.kind_of.ensures c.if-kind_of-eq-VAR.true c.low-r.ensures)

pub offset_bounds-start-r : goal.offset_bounds-start-r
offset_bounds-start-r c = omega (arith, register c.args.start.now c.requires.0 c.kind_of.ensures c.if-kind_of-eq-VAR.true c.low-r.ensures)

pub bounds-start-r : goal.bounds-start-r
bounds-start-r c = omega (arith, register c.args.start.now c.requires.0 c.kind_of.ensures c.if-kind_of-eq-VAR.true c.low-r.ensures)

pub overflow_mul-result-then-kind_of-eq-VAR : goal.overflow_mul-result-then-kind_of-eq-VAR
overflow_mul-result-then-kind_of-eq-VAR c = omega (arith, register c.args.start.now c.requires.0 c.kind_of.ensures c.if-kind_of-eq-VAR.true c.low-r.ensures)

pub overflow_add-result : goal.overflow_add-result
overflow_add-result c = omega (arith, register c.args.start.now c.requires.0 c.kind_of.ensures c.if-kind_of-eq-VAR.true c.low-r.ensures)

pub offset_bounds-start-r-then-kind_of-eq-VAR : goal.offset_bounds-start-r-then-kind_of-eq-VAR
offset_bounds-start-r-then-kind_of-eq-VAR c = omega (arith, register c.args.start.now c.requires.0 c.kind_of.ensures c.if-kind_of-eq-VAR.true c.low-r.ensures)

pub bounds-start-r-then-kind_of-eq-VAR : goal.bounds-start-r-then-kind_of-eq-VAR
bounds-start-r-then-kind_of-eq-VAR c = omega (arith, register c.args.start.now c.requires.0 c.kind_of.ensures c.if-kind_of-eq-VAR.true c.low-r.ensures)

pub returns-then-kind_of-eq-VAR : goal.returns-then-kind_of-eq-VAR
returns-then-kind_of-eq-VAR c = rw c.low-r.ensures (sym (leaf-var _ _ _ c.requires.0 _ c.kind_of.ensures c.if-kind_of-eq-VAR.true))

pub returns : goal.returns
returns c =
    let const = is-const _ _ c.requires.0 _ c.kind_of.ensures (rw (← c.kind_of.ensures) at c.requires.1) c.if-kind_of-eq-VAR.false in
    rw (c.low.ensures, c.high.ensures) (two-words _ _ ∙ sym (leaf-const _ _ _ c.requires.0 _ c.kind_of.ensures const))
