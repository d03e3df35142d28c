-- `joined_wire` reads the operand's literal that the kind names.
use Rattle.std.proofs.Common.{ℕ, ◌≡◌, ◌≤◌, List, sym, ◌∙◌, arith}
use Rattle.pool.specs.Node.{kind_number}
use Rattle.pool_fields.specs.Fields.{op_a, op_b}
use Rattle.text_parts.specs.Text as nodes
use Rattle.text_parts.proofs.Operands.{to-nineteen}
use Rattle.gates_pool.proofs.Rules.{most, Concat, concat-facts, Extend, extend-facts}
use Rattle.gates_pool.proofs.Literals.{concat-low, concat-high, extend-low, zext-high, sext-high}
use Rattle.gates_pool.proofs.wires.joined_wire.Goals as goal

concat : {ws : List ℕ} {n k : ℕ} (node : nodes.Ready ws n) → k ≡ kind_number ws n → k ≡ 17 → Concat ws n node
concat {ws} {n} node e q = concat-facts ws n node (sym e ∙ q)

extension : {ws : List ℕ} {n k : ℕ} (node : nodes.Ready ws n) → k ≡ kind_number ws n → 17 ≤ k → (k ≡ 17 → ⊥) → Extend ws n node
extension {ws} {n} {k} node e l h = extend-facts ws n node (omega (arith, e, l, h)) (omega (arith, e, to-nineteen ws n node k e))

pub width_of-below-requires : goal.width_of-below-requires
width_of-below-requires c =
    let node = c.requires.0.node in
    omega (arith, c.second-b.ensures, (concat node c.requires.1 c.if-kind-eq-CONCAT.true).b, node.inside)

pub bounds-bits-b : goal.bounds-bits-b
bounds-bits-b c =
    let ws = c.args.pool.now in
    let n = c.args.n.0 in
    let node = c.requires.0.node in
    let f = concat node c.requires.1 c.if-kind-eq-CONCAT.true in
    let below = rw c.second-b.ensures at c.width_of-below.ensures.0 in
    omega (arith, c.second-b.ensures, f.b, c.requires.0.places, below, most ws n node (op_b ws n) (omega (arith, f.b)))

pub returns-then-j-below : goal.returns-then-j-below
returns-then-j-below c =
    let ws = c.args.pool.now in
    let n = c.args.n.0 in
    let node = c.requires.0.node in
    let bits = c.args.bits.now in
    let j = c.args.j in
    let below = rw c.second-b.ensures at c.width_of-below.ensures.0 in
    rw c.second-b.ensures (sym (concat-low ws n bits j (sym c.requires.1 ∙ c.if-kind-eq-CONCAT.true) (omega (arith, below))))

pub bounds-bits-at : goal.bounds-bits-at
bounds-bits-at c =
    let ws = c.args.pool.now in
    let n = c.args.n.0 in
    let node = c.requires.0.node in
    let f = concat node c.requires.1 c.if-kind-eq-CONCAT.true in
    let below = rw c.second-b.ensures at c.width_of-below.ensures.0 in
    omega (arith, c.first-a.ensures, f.a, f.width, c.requires.0.places, below, most ws n node (op_a ws n) (omega (arith, f.a)))

pub returns-then-kind-eq-CONCAT : goal.returns-then-kind-eq-CONCAT
returns-then-kind-eq-CONCAT c =
    let ws = c.args.pool.now in
    let n = c.args.n.0 in
    let node = c.requires.0.node in
    let bits = c.args.bits.now in
    let j = c.args.j in
    let below = rw c.second-b.ensures at c.width_of-below.ensures.0 in
    rw (c.first-a.ensures, below) (sym (concat-high ws n bits j (sym c.requires.1 ∙ c.if-kind-eq-CONCAT.true) (omega (arith, below))))

pub width_of-own-requires : goal.width_of-own-requires
width_of-own-requires c =
    let node = c.requires.0.node in
    let f = extension node c.requires.1 c.requires.2 c.if-kind-eq-CONCAT.false in
    omega (arith, c.first-a.ensures, f.a, node.inside)

pub bounds-bits-at-then-j-own : goal.bounds-bits-at-then-j-own
bounds-bits-at-then-j-own c =
    let ws = c.args.pool.now in
    let n = c.args.n.0 in
    let node = c.requires.0.node in
    let f = extension node c.requires.1 c.requires.2 c.if-kind-eq-CONCAT.false in
    let own = rw c.first-a.ensures at c.width_of-own.ensures.0 in
    omega (arith, c.first-a.ensures, f.a, c.requires.0.places, own, most ws n node (op_a ws n) (omega (arith, f.a)))

pub returns-then-j-own : goal.returns-then-j-own
returns-then-j-own c =
    let ws = c.args.pool.now in
    let n = c.args.n.0 in
    let node = c.requires.0.node in
    let bits = c.args.bits.now in
    let j = c.args.j in
    let own = rw c.first-a.ensures at c.width_of-own.ensures.0 in
    let e = c.requires.1 in
    rw c.first-a.ensures
    (sym (extend-low ws n bits j (omega (arith, e)) (omega (arith, e, to-nineteen ws n node _ e)) (omega (arith, own))))

pub overflow_sub-result-then-kind-eq-SIGN_EXTEND : goal.overflow_sub-result-then-kind-eq-SIGN_EXTEND
overflow_sub-result-then-kind-eq-SIGN_EXTEND c =
    let node = c.requires.0.node in
    let f = extension node c.requires.1 c.requires.2 c.if-kind-eq-CONCAT.false in
    let own = rw c.first-a.ensures at c.width_of-own.ensures.0 in
    omega (arith, own, f.wide-a)

pub bounds-bits-at-then-kind-eq-SIGN_EXTEND : goal.bounds-bits-at-then-kind-eq-SIGN_EXTEND
bounds-bits-at-then-kind-eq-SIGN_EXTEND c =
    let ws = c.args.pool.now in
    let n = c.args.n.0 in
    let node = c.requires.0.node in
    let f = extension node c.requires.1 c.requires.2 c.if-kind-eq-CONCAT.false in
    let own = rw c.first-a.ensures at c.width_of-own.ensures.0 in
    omega (arith, c.first-a.ensures, f.a, f.wide-a, c.requires.0.places, own, most ws n node (op_a ws n) (omega (arith, f.a)))

pub returns-then-kind-eq-SIGN_EXTEND : goal.returns-then-kind-eq-SIGN_EXTEND
returns-then-kind-eq-SIGN_EXTEND c =
    let ws = c.args.pool.now in
    let n = c.args.n.0 in
    let node = c.requires.0.node in
    let bits = c.args.bits.now in
    let j = c.args.j in
    let own = rw c.first-a.ensures at c.width_of-own.ensures.0 in
    rw (c.first-a.ensures, own) (sym (sext-high ws n bits j (sym c.requires.1 ∙ c.if-kind-eq-SIGN_EXTEND.true) (omega (arith, own))))

pub returns : goal.returns
returns c =
    let ws = c.args.pool.now in
    let n = c.args.n.0 in
    let node = c.requires.0.node in
    let bits = c.args.bits.now in
    let j = c.args.j in
    let own = rw c.first-a.ensures at c.width_of-own.ensures.0 in
    let e = c.requires.1 in
    let z : kind_number ws n ≡ 18 = omega (arith, e, to-nineteen ws n node _ e) in
    sym (zext-high ws n bits j z (omega (arith, own)))
