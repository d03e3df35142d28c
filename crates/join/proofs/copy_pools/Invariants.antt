-- copy_pools: before node m the words are those of `join_word`, whatever the nodes of the Eq are
use Rattle.std.proofs.Common.{ℕ, ◌+◌, ◌-◌}
use Rattle.join.specs.Join.{SecondAt}
use Rattle.join.proofs.copy_pools.Given as goal

abbrev pub invariant-loop-m : goal.invariant-loop-m
invariant-loop-m l = (x y : ℕ) → SecondAt l.first l.c l.second l.d x y l.initial.out l.out (l.m + l.c - 32)
