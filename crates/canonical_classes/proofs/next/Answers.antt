-- `next` gives `next_of`: a slot of the second table at the first level, later one under the node.
use native.Mathlib.Omega.{arith}
use mathlib.Core.Path.{ap}
use Prim.Native.Nat.{ℕ, ◌+◌, ◌/◌, ◌%◌}
use borrow.Author.Tests.{eq-eqb}
use Rattle.canonical_classes.specs.Key.{next_of, under}
use Rattle.canonical_classes.proofs.Search.{next-later}
use Rattle.canonical_classes.proofs.next.Goals as goal

pub returns-then-level-eq0 : goal.returns-then-level-eq0
unfolding next_of
returns-then-level-eq0 c =
    (rw (eq-eqb c.args.level 0 (omega (arith, c.if-level-eq0.true))) (ap (λ (x : ℕ). 65536 + x / 1048576 % 65536) c.requires.3), omega arith)

pub returns : goal.returns
returns c =
    let a = c.args in
    let e = next-later a.k a.m.0 a.level (omega (arith, c.if-level-eq0.false)) in
    (rw e (ap (under a.m.0) c.way.ensures.0), omega (arith, c.way.ensures.1))
