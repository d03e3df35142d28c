use Rattle.std.proofs.Common.{subst, ℕ, ◌≡◌, ◌+◌, ◌-◌, arith}
use Rattle.join.specs.Join.{SecondAt}
use Rattle.join.proofs.Copies.{start-at, second_at, from-half}
use Rattle.join.proofs.Moved.{moved-parts, word_small}
use Rattle.join.proofs.copy_pools.Goals as goal

pub loop-m-init : goal.loop-m-init
loop-m-init c =
    let a = c.args in
    let r = c.requires in
    let e : a.c ≡ 32 + a.c - 32 = omega arith in
    λ x y.
    subst (λ (n : ℕ). SecondAt a.first.now a.c a.second.now a.d x y c.copy_first.new.out c.copy_first.new.out n) e
    (start-at a.first.now a.c a.second.now a.d x y r.c_in_bounds.1 r.valid.2 a.out.now _ c.copy_first.ensures)

pub move_one-requires-clause-m_bound : goal.move_one-requires-clause-m_bound
move_one-requires-clause-m_bound c =
    let a = c.args in
    word_small a.second.now a.d c.loop-m.m c.requires.valid.0 c.loop-m-test.true (omega arith)

pub loop-m-preserved : goal.loop-m-preserved
loop-m-preserved c =
    let a = c.args in
    let r = c.requires in
    let l = c.loop-m in
    let more = c.loop-m-test.true in
    λ x y.
    second_at a.first.now a.c a.second.now a.d x y r.c_in_bounds.1 r.valid.2 _ l.out _ l.m (omega arith) more (omega (arith, r, l.auto, c.copy_first.ensures.long, more))
    (moved-parts a.second.now a.d l.m r.valid.0 more a.c) c.move_one.ensures (l.invariant x y)

pub returns : goal.returns
returns c x y =
    let a = c.args in
    let l = c.loop-m in
    let e : l.m + a.c - 32 ≡ a.c + a.d - 32 = omega (arith, l.auto, c.loop-m-test.false, c.requires) in
    rw e at (from-half a.first.now a.c a.second.now a.d x y a.out.now _ l.out (l.m + a.c - 32) (omega (arith, l.auto)) c.copy_first.ensures (l.invariant x y))
