-- `compare_gates`: the bound of each comparison.
use Rattle.std.proofs.Common.{◌+◌, ◌*◌, ◌≡◌, refl}
use Rattle.pool.specs.Node.{kinds}
use Rattle.pool_rules.proofs.Numbers.{within}
use Rattle.gates_pool.specs.Gates.{gates_for}
use Rattle.gates_pool.proofs.room.compare_gates.Goals as goal

pub returns-then-kind-lt-ULT : goal.returns-then-kind-lt-ULT
unfolding kinds
returns-then-kind-lt-ULT c = let a = c.args in within (λ κ. 4 * a.w ≡ gates_for κ a.w) 12 1 (refl, tt) a.kind c.requires.0 c.if-kind-lt-ULT.true

pub returns-then-kind-lt-SLT : goal.returns-then-kind-lt-SLT
unfolding kinds
returns-then-kind-lt-SLT c =
    let a = c.args in
    within (λ κ. 5 * a.w ≡ gates_for κ a.w) 13 1 (refl, tt) a.kind c.if-kind-lt-ULT.false c.if-kind-lt-SLT.true

pub returns : goal.returns
unfolding kinds
returns c = let a = c.args in within (λ κ. 5 * a.w + 6 ≡ gates_for κ a.w) 14 1 (refl, tt) a.kind c.if-kind-lt-SLT.false c.requires.1
