-- `gates_in` adds the gates of a node a turn.
use Rattle.std.proofs.Common.{ℕ, ◌≡◌, ◌+◌, List, refl, add-one, arith}
use Rattle.text_parts.proofs.Operands.{ready_of}
use Rattle.gates_pool.specs.Gates.{gates_at, gates_in}
use Rattle.gates_pool.proofs.Bounds.{gates-few}
use Rattle.gates_pool.proofs.room.gates_in.Goals as goal

one_more : (ws : List ℕ) (n : ℕ) → gates_in ws n + gates_at ws n ≡ gates_in ws (n + 1)
unfolding gates_in
one_more ws n = rw (add-one n) refl

pub loop-n-init : goal.loop-n-init
unfolding gates_in
loop-n-init c = record { sum = refl; few = omega arith }

pub gates_at-all-requires : goal.gates_at-all-requires
gates_at-all-requires c = ready_of c.args.pool.now c.args.count c.loop-n.n c.requires.0 c.loop-n-test.true c.requires.1

pub overflow_add-all : goal.overflow_add-all
overflow_add-all c =
    let ready = ready_of c.args.pool.now c.args.count c.loop-n.n c.requires.0 c.loop-n-test.true c.requires.1 in
    omega (arith, gates-few _ _ ready)

pub loop-n-preserved : goal.loop-n-preserved
loop-n-preserved c =
    let i = c.loop-n.invariant in
    let e = c.gates_at-all.ensures in
    let ready = ready_of c.args.pool.now c.args.count c.loop-n.n c.requires.0 c.loop-n-test.true c.requires.1 in
    record { sum = cc (one_more c.args.pool.now c.loop-n.n); few = omega (arith, gates-few _ _ ready) }
