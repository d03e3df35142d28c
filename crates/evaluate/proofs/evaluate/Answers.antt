-- `evaluate` meets its contract: 1, 5, 11 if the allowance is used up, else the value and the visits made.
use mathlib.Core.List.{List}
use mathlib.Core.Path.{◌≡◌, refl, sym}
use Prim.Native.Nat.{ℕ}
use native.Mathlib.Omega.{arith}
use Rattle.std.proofs.lemmas.Result.{err_from_is_err_and}
use Rattle.facts.proofs.Answers.{code-positive}
use Rattle.pool.specs.Rules.{node_number}
use Rattle.pool_check.proofs.Number.{accepted}
use Rattle.pool_check.proofs.Passed.{words-for, keeps}
use Rattle.text_parts.specs.Text.{Ready}
use Rattle.text_parts.proofs.Operands.{ready_of}
use Rattle.evaluate.proofs.Steps.{some}
use Rattle.evaluate.proofs.Answers.{bad, too_many, given}
use Rattle.evaluate.proofs.evaluate.Goals as goal

-- past the first test the pool is good, and the node is below the count
ready_at : (ws : List ℕ) (count n : ℕ) → 0 ≡ node_number ws count n 0 → Ready ws n
ready_at ws count n e =
    let k = accepted ws count n 0 (sym e) in
    ready_of ws count n (keeps ws count k.0) k.1 (words-for ws count k.0)

pub returns-in_err-node_number : goal.returns-in_err-node_number
returns-in_err-node_number c =
    let p = err_from_is_err_and c.from_residual.result c.from_residual.ensures.1 in
    rw (p.1, p.2) (bad _ _ _ _ _ _ c.in_err-node_number.ensures (omega (arith, code-positive c.in_err-node_number.field-0.0)))

pub visit-left-requires : goal.visit-left-requires
visit-left-requires c =
    (ready_at c.args.pool.now c.args.count c.args.node c.in_ok-node_number.ensures, c.words_of.ensures)

pub returns-then-left-eq0 : goal.returns-then-left-eq0
returns-then-left-eq0 c =
    let k = accepted c.args.pool.now c.args.count c.args.node 0 (sym c.in_ok-node_number.ensures) in
    too_many _ _ _ _ _ k.0 k.1 c.visit-left.ensures c.if-left-eq0.true

pub overflow_sub-result : goal.overflow_sub-result
overflow_sub-result c =
    let r = ready_at c.args.pool.now c.args.count c.args.node c.in_ok-node_number.ensures in
    let s = some c.args.pool.now c.args.start.now c.args.node r _ refl in
    omega (arith, c.visit-left.ensures.left_is, s)

pub returns : goal.returns
returns c =
    let k = accepted c.args.pool.now c.args.count c.args.node 0 (sym c.in_ok-node_number.ensures) in
    let r = ready_at c.args.pool.now c.args.count c.args.node c.in_ok-node_number.ensures in
    let s = some c.args.pool.now c.args.start.now c.args.node r _ refl in
    given _ _ _ _ _ k.0 k.1 c.visit-left.ensures c.if-left-eq0.false s _ c.load.ensures
