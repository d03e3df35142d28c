use Rattle.std.proofs.Common.{rules}
use Rattle.refutation.specs.Refutation.{remains}
use Rattle.refutation_hints.proofs.left_of_two.Goals as goal

pub returns : goal.returns
unfolding remains
returns c = search rules
