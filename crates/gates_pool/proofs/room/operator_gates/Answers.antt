-- `operator_gates`: the bound of each operator.
use Rattle.std.proofs.Common.{◌*◌, ◌≡◌, refl}
use Rattle.pool.specs.Node.{kinds}
use Rattle.pool_rules.proofs.Numbers.{within}
use Rattle.gates_pool.specs.Gates.{gates_for}
use Rattle.gates_pool.proofs.room.operator_gates.Goals as goal

pub returns-then-kind-lt-SUB : goal.returns-then-kind-lt-SUB
unfolding kinds
returns-then-kind-lt-SUB c = let a = c.args in within (λ κ. 7 * a.w ≡ gates_for κ a.w) 3 1 (refl, tt) a.kind c.requires.0 c.if-kind-lt-SUB.true

pub returns-then-kind-lt-MUL : goal.returns-then-kind-lt-MUL
unfolding kinds
returns-then-kind-lt-MUL c =
    let a = c.args in
    within (λ κ. 10 * a.w ≡ gates_for κ a.w) 4 1 (refl, tt) a.kind c.if-kind-lt-SUB.false c.if-kind-lt-MUL.true

pub returns-then-kind-lt-AND : goal.returns-then-kind-lt-AND
unfolding kinds
returns-then-kind-lt-AND c =
    let a = c.args in
    within (λ κ. 10 * a.w * a.w ≡ gates_for κ a.w) 5 1 (refl, tt) a.kind c.if-kind-lt-MUL.false c.if-kind-lt-AND.true

pub returns-then-kind-lt-SHL : goal.returns-then-kind-lt-SHL
unfolding kinds
returns-then-kind-lt-SHL c =
    let a = c.args in
    within (λ κ. 3 * a.w ≡ gates_for κ a.w) 6 3 (refl, (refl, (refl, tt))) a.kind c.if-kind-lt-AND.false c.if-kind-lt-SHL.true

pub returns : goal.returns
unfolding kinds
returns c = let a = c.args in within (λ κ. 31 * a.w ≡ gates_for κ a.w) 9 3 (refl, (refl, (refl, tt))) a.kind c.if-kind-lt-SHL.false c.requires.1
