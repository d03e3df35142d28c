-- What asking for the registers beneath a node answers (document 02, S-4): 1, 5, the first in order; else what the walk over its tree finds.
use Rattle.std.specs.Prelude.{List, ◌≡◌, ℕ}
use Rattle.facts.specs.Refuse.{by_number}
use Rattle.terms.specs.Registers.{registers}
use Rattle.pool.specs.Rules.{node_number}
use Rattle.pool.specs.Unfold.{unfold_at}

pub record Named (ws : List ℕ) (count n : ℕ) (number set : ℕ) : Type 0 where
  pub number_is : number ≡ node_number ws count n 0
  pub set_is : set ≡ by_number (node_number ws count n 0) (registers (unfold_at ws n))
