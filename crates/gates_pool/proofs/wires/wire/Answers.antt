-- `wire` gives the literal of a register's bit, a constant's bit, or an operand's.
use Rattle.std.proofs.Common.{ℕ, ◌≡◌, ◌+◌, ◌*◌, ◌≤◌, ◌<◌, List, ⊎_elim, sym, ◌∙◌, arith}
use Rattle.facts.proofs.Numbers.{before-or-from}
use Rattle.pool.specs.Node.{kind_number, width_at, word_at}
use Rattle.pool_fields.specs.Fields.{op_a}
use Rattle.text_parts.specs.Text as nodes
use Rattle.text_parts.proofs.Operands.{is-const}
use Rattle.gates_pool.proofs.Rules.{most, var-facts, extract-facts}
use Rattle.gates_pool.proofs.Literals.{var-wire, const-wire, extract-wire}
use Rattle.gates_pool.proofs.wires.wire.Goals as goal

-- the place of a literal that an Extract reads
cut : {ws : List ℕ} {n p j lo l : ℕ} (node : nodes.Ready ws n) → kind_number ws n ≡ 16 → p ≡ op_a ws n → lo ≡ word_at ws n 3 → j < width_at ws n
    → 129 * (n + 2) ≤ l → 129 * p + (lo + j) < l
cut {ws} {n} node k a lo j l =
    let f = extract-facts ws n node k in
    omega (arith, a, lo, j, l, f.a, f.ordered, f.inside, f.width, most ws n node (op_a ws n) (omega (arith, f.a)))

pub overflow_mul-result : goal.overflow_mul-result
overflow_mul-result c = omega (arith, c.low.ensures, var-facts _ _ c.requires.0.node (sym c.kind_of-kind.ensures ∙ c.if-kind-eq-VAR.true))

pub overflow_add-result : goal.overflow_add-result
overflow_add-result c = omega (arith, c.low.ensures, var-facts _ _ c.requires.0.node (sym c.kind_of-kind.ensures ∙ c.if-kind-eq-VAR.true))

pub overflow_add-result-then-kind-eq-VAR : goal.overflow_add-result-then-kind-eq-VAR
overflow_add-result-then-kind-eq-VAR c = omega (arith, c.low.ensures, var-facts _ _ c.requires.0.node (sym c.kind_of-kind.ensures ∙ c.if-kind-eq-VAR.true))

pub overflow_mul-result-then-kind-eq-VAR : goal.overflow_mul-result-then-kind-eq-VAR
overflow_mul-result-then-kind-eq-VAR c = omega (arith, c.low.ensures, var-facts _ _ c.requires.0.node (sym c.kind_of-kind.ensures ∙ c.if-kind-eq-VAR.true))

pub returns-then-kind-eq-VAR : goal.returns-then-kind-eq-VAR
returns-then-kind-eq-VAR c =
    let ws = c.args.pool.now in
    let n = c.args.n.0 in
    let bits = c.args.bits.now in
    let k = sym c.kind_of-kind.ensures in
    rw c.low.ensures (sym (var-wire ws n bits c.args.j (k ∙ c.if-kind-eq-VAR.true)))

pub returns-then-kind-eq-CONST : goal.returns-then-kind-eq-CONST
returns-then-kind-eq-CONST c =
    let ws = c.args.pool.now in
    let n = c.args.n.0 in
    let bits = c.args.bits.now in
    let k = sym c.kind_of-kind.ensures in
    c.constant_bit.ensures
    ∙ rw (c.low-then-kind-eq-CONST.ensures, c.high.ensures) (sym (const-wire ws n bits c.args.j (k ∙ c.if-kind-eq-CONST.true)))

pub overflow_add-result-then-kind-eq-EXTRACT : goal.overflow_add-result-then-kind-eq-EXTRACT
overflow_add-result-then-kind-eq-EXTRACT c =
    let k = sym c.kind_of-kind.ensures ∙ c.if-kind-eq-EXTRACT.true in
    omega (arith, cut c.requires.0.node k c.first-a.ensures c.high-lo.ensures c.requires.2 c.requires.0.places)

pub overflow_add-result-then-kind-eq-EXTRACT-2 : goal.overflow_add-result-then-kind-eq-EXTRACT-2
overflow_add-result-then-kind-eq-EXTRACT-2 c =
    let k = sym c.kind_of-kind.ensures ∙ c.if-kind-eq-EXTRACT.true in
    omega (arith, cut c.requires.0.node k c.first-a.ensures c.high-lo.ensures c.requires.2 c.requires.0.places)

pub offset_bounds-bits-a : goal.offset_bounds-bits-a
offset_bounds-bits-a c =
    let k = sym c.kind_of-kind.ensures ∙ c.if-kind-eq-EXTRACT.true in
    omega (arith, cut c.requires.0.node k c.first-a.ensures c.high-lo.ensures c.requires.2 c.requires.0.places)

pub bounds-bits-a : goal.bounds-bits-a
bounds-bits-a c =
    let k = sym c.kind_of-kind.ensures ∙ c.if-kind-eq-EXTRACT.true in
    omega (arith, cut c.requires.0.node k c.first-a.ensures c.high-lo.ensures c.requires.2 c.requires.0.places)

pub returns-then-kind-eq-EXTRACT : goal.returns-then-kind-eq-EXTRACT
returns-then-kind-eq-EXTRACT c =
    let ws = c.args.pool.now in
    let n = c.args.n.0 in
    let bits = c.args.bits.now in
    let k = sym c.kind_of-kind.ensures in
    rw (c.first-a.ensures, c.high-lo.ensures) (sym (extract-wire ws n bits c.args.j (k ∙ c.if-kind-eq-EXTRACT.true)))

pub joined_wire-requires : goal.joined_wire-requires
joined_wire-requires c =
    let ws = c.args.pool.now in
    let n = c.args.n.0 in
    let node = c.requires.0.node in
    let q = c.kind_of-kind.ensures in
    let from-three : 3 ≤ c.kind_of-kind.result =
    ⊎_elim (λ l. absurd (c.if-kind-eq-CONST.false (is-const ws n node _ q l c.if-kind-eq-VAR.false))) (λ l. l) (before-or-from c.kind_of-kind.result 3) in
    let high = c.requires.1 (omega (arith, q)) in
    (c.requires.0, q, omega (arith, high, q, c.if-kind-eq-EXTRACT.false), c.requires.2)
