use mathlib.Core.Path.{◌≡◌}
use Prim.Native.Nat.{◌≤◌}
use lib.ListN.{length, drop}
use Rattle.line_pieces.proofs.Gathering.{Same}
use Rattle.line_pieces.proofs.gather.Given as goal

-- what is held and what is left of the piece are what there was
abbrev pub invariant-loop-i : goal.invariant-loop-i
invariant-loop-i l = record {
  same : Same l.initial.held l.len (drop l.from l.input) l.from l.held l.n (drop l.i l.input) l.i;
  stays : length l.input ≤ l.from → l.i ≡ l.from;
}
