-- `words::list`: a word takes 25 bytes of the output at most.
use Rattle.std.proofs.Common.{◌*◌, ◌≤◌}
use Rattle.words.proofs.list.Given as goal

abbrev pub invariant-loop-j : goal.invariant-loop-j
invariant-loop-j g l = l.end ≤ 25 * l.j
