-- `start_pool` meets its contract: the nodes of all registers, and the map that says so.
use Rattle.std.proofs.Common.{◌≡◌, ℕ, subst, arith}
use Rattle.pool.specs.Growth.{Room}
use Rattle.block.specs.Block.{Started}
use Rattle.block.proofs.Running.{start_none, start-more}
use Rattle.block.proofs.start_pool.Goals as goal

pub loop-r-init : goal.loop-r-init
loop-r-init c = start_none c.args.pool.now

pub loop-r-preserved : goal.loop-r-preserved
loop-r-preserved c =
    let room : Room c.loop-r.pool c.loop-r.r 1 = omega (arith, c.requires, c.loop-r.invariant.grown.long) in
    start-more c.loop-r-test.true room c.loop-r.invariant c.var.ensures

pub returns : goal.returns
returns c =
    let all : c.loop-r.r ≡ 32 = omega arith in
    (subst (λ (k : ℕ). Started c.args.pool.now c.loop-r.pool k) all c.loop-r.invariant, c.initial.ensures)
