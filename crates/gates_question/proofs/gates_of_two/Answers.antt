use Rattle.std.proofs.Common.{◌≤◌, ℕ, List, arith}
use Rattle.gates_pool.specs.Gates.{gates_in}
use Rattle.gates_question.specs.Build.{Pool}
use Rattle.gates_question.proofs.Build.{gates-bound}
use Rattle.gates_question.proofs.gates_of_two.Goals as goal

-- a pool has too few nodes for a sum to wrap
few : (ws : List ℕ) (n : ℕ) → Pool ws n → gates_in ws n ≤ 10905679350
few ws n p = omega (arith, gates-bound ws n p n (omega arith), p.few)

pub overflow_add-result : goal.overflow_add-result
overflow_add-result c =
    let a = c.args in
    let r = c.requires in
    omega (arith, few a.first.now a.n r.0, few a.second.now a.m r.1, c.gates_in.ensures, c.gates_in-2.ensures)

pub overflow_add-result-2 : goal.overflow_add-result-2
overflow_add-result-2 c =
    let a = c.args in
    let r = c.requires in
    omega (arith, few a.first.now a.n r.0, few a.second.now a.m r.1, c.gates_in.ensures, c.gates_in-2.ensures)
