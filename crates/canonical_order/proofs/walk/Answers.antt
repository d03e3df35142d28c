-- `walk` numbers every class beneath the root (`Numbered`).
use Rattle.std.proofs.Common.{◌≡◌, ℕ, subst, arith}
use Rattle.canonical_order.specs.Walk.{Walking}
use Rattle.canonical_order.proofs.Ends.{started, ended}
use Rattle.canonical_order.proofs.walk.Goals as goal

pub loop-s-init : goal.loop-s-init
loop-s-init c =
    let a = c.args in
    let v = c.requires.valid in
    let long = c.requires.long in
    started a.pool.now a.class.now a.root.0 c.requires.classes v.2 a.number.now a.order.now a.stack.now long.0 long.1 long.2 c.requires.all_none

pub returns : goal.returns
returns c =
    let a = c.args in
    let l = c.loop-s in
    let e : l.s.depth ≡ 0 = omega arith in
    ended a.pool.now a.class.now a.root.0 l.number l.order l.s.count l.stack
    (subst (λ (x : ℕ). Walking a.pool.now a.class.now a.root.0 l.number l.order l.s.count l.stack x) e l.invariant)
