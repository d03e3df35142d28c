-- the lengths of the nodes passed are kept
use mathlib.Core.Path.{◌≡◌}
use lib.ListN.{length}
use Rattle.text_length.specs.Known.{Known}
use Rattle.text_length.proofs.nodes.length_from.Given as goal

abbrev pub invariant-loop-j : goal.invariant-loop-j
invariant-loop-j l = (length l.lengths ≡ length l.initial.lengths) × Known l.p l.b l.lengths l.j
