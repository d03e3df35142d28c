-- `gates_at`: the bound of the node's kind, at the bits that it works on.
use Rattle.std.proofs.Common.{ℕ, ◌≡◌, ◌*◌, ◌≤◌, ◌<◌, List, refl, sym, ap, ◌∙◌, arith}
use Rattle.pool.specs.Node.{kind_at, kind_number, width_at}
use Rattle.pool_fields.specs.Fields.{op_a}
use Rattle.text_parts.specs.Text as nodes
use Rattle.text_parts.proofs.Operands.{to-nineteen}
use Rattle.gates_pool.specs.Gates.{gates_for}
use Rattle.gates_pool.proofs.Rules.{most, Compared, compare-facts}
use Rattle.gates_pool.proofs.Operators.{gates-at}
use Rattle.gates_pool.proofs.Comparisons.{gates-flat, gates-chosen}
use Rattle.gates_pool.proofs.Bounds.{none_below, none_above}
use Rattle.gates_pool.proofs.room.gates_at.Goals as goal

compared : {ws : List ℕ} {n : ℕ} (node : nodes.Ready ws n) (k : ℕ) → k ≡ kind_number ws n → 12 ≤ k → k < 15 → Compared ws n node
compared {ws} {n} node k e f t = compare-facts ws n node (omega arith) (omega arith)

pub returns-then-kind-lt-ADD : goal.returns-then-kind-lt-ADD
returns-then-kind-lt-ADD c = none_below c.args.pool.now c.args.n.0 (omega (arith, c.kind_of-kind.ensures))

pub operator_gates-requires : goal.operator_gates-requires
operator_gates-requires c =
    let n = c.args.n.0 in
    (c.if-kind-lt-ADD.false, c.if-kind-lt-EQ.true, omega (arith, c.width_of.ensures.0, most c.args.pool.now n c.requires n (omega arith)))

pub returns-then-kind-lt-EQ : goal.returns-then-kind-lt-EQ
returns-then-kind-lt-EQ c =
    let ws = c.args.pool.now in
    let n = c.args.n.0 in
    let e = c.kind_of-kind.ensures in
    c.operator_gates.ensures
    ∙ (λ i. gates_for (kind_at (e i)) (c.width_of.ensures.0 i))
    ∙ sym (gates-at ws n c.requires (omega (arith, e)) (omega (arith, e)))

pub width_of-requires-then-kind-lt-ITE : goal.width_of-requires-then-kind-lt-ITE
width_of-requires-then-kind-lt-ITE c =
    let x = compared c.requires c.kind_of-kind.result c.kind_of-kind.ensures c.if-kind-lt-EQ.false c.if-kind-lt-ITE.true in
    omega (arith, c.first.ensures, x.a, c.requires.inside)

pub compare_gates-requires : goal.compare_gates-requires
compare_gates-requires c =
    let ws = c.args.pool.now in
    let n = c.args.n.0 in
    let x = compared c.requires c.kind_of-kind.result c.kind_of-kind.ensures c.if-kind-lt-EQ.false c.if-kind-lt-ITE.true in
    let width = rw c.first.ensures at c.width_of-then-kind-lt-ITE.ensures.0 in
    (c.if-kind-lt-EQ.false, c.if-kind-lt-ITE.true, omega (arith, width, most ws n c.requires (op_a ws n) (omega (arith, x.a))))

pub returns-then-kind-lt-ITE : goal.returns-then-kind-lt-ITE
returns-then-kind-lt-ITE c =
    let ws = c.args.pool.now in
    let n = c.args.n.0 in
    let e = c.kind_of-kind.ensures in
    let width : c.width_of-then-kind-lt-ITE.result ≡ width_at ws (op_a ws n) = rw c.first.ensures at c.width_of-then-kind-lt-ITE.ensures.0 in
    c.compare_gates.ensures
    ∙ (λ i. gates_for (kind_at (e i)) (width i))
    ∙ sym (gates-flat ws n c.requires (omega (arith, e)) (omega (arith, e)))

pub returns-then-kind-lt-EXTRACT : goal.returns-then-kind-lt-EXTRACT
returns-then-kind-lt-EXTRACT c =
    let ws = c.args.pool.now in
    let n = c.args.n.0 in
    ap (λ (w : ℕ). 3 * w) c.width_of-then-kind-lt-EXTRACT.ensures.0 ∙ sym (gates-chosen ws n c.requires (omega (arith, c.kind_of-kind.ensures)))

pub returns : goal.returns
returns c =
    let ws = c.args.pool.now in
    let n = c.args.n.0 in
    none_above ws n (omega (arith, c.kind_of-kind.ensures)) (to-nineteen ws n c.requires (kind_number ws n) refl)
