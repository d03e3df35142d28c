-- `spread` gives `spread_of`: no sum on the way overflows a word.
use Rattle.canonical_classes.specs.Key.{spread_of}
use Rattle.canonical_classes.proofs.spread.Goals as goal

pub returns : goal.returns
unfolding spread_of
returns c = cc
