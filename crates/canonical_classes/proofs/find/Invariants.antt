-- The link is that of the slot, and the search has come to the slot; links rise, so it ends.
use Rattle.std.proofs.Common.{◌≡◌, get_or}
use Rattle.canonical_classes.specs.Class.{slots_of}
use Rattle.canonical_classes.proofs.Search.{Searching, to_go}
use Rattle.canonical_classes.proofs.find.Given as goal

abbrev pub invariant-loop-link : goal.invariant-loop-link
invariant-loop-link l =
    let slots = slots_of l.first l.second l.ways in
    (l.link ≡ get_or slots l.slot 0) × Searching l.pool l.class slots l.k l.slot l.level

abbrev pub decreases-loop-link : goal.decreases-loop-link
decreases-loop-link l = to_go l.level l.link
