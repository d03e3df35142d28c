-- The amount of a lane of a register shift.
use Rattle.std.specs.Prelude.{List, [], ℕ, ◌+◌, ◌*◌, ◌≤◌}
use Rattle.terms.specs.Expr.{Expr}
use Rattle.trees.specs.Trees.{extract_lane, signed_amount}
use Rattle.pool.specs.declared.Node.{Node}
use Rattle.pool.specs.declared.Built.{Built}
use Rattle.pool.specs.Rules.{Valid}
use Rattle.pool.specs.Growth.{NodeIs}
use Rattle.pool_nodes.specs.Builders.{Takes, Makes}

-- the signed amount of lane `index`, at any width w of the source; the answer may not reach the source
pub record MadeAmount (old : List ℕ) (k : ℕ) (new : List ℕ) (r : Built) (second : Node) (bits index : ℕ) : Type 0 where
  pub sized : Takes old k new r 2
  pub made : {w : ℕ} {t : Expr} → Valid old k → bits * index + bits ≤ w → NodeIs old k second.0 w t
      → Makes old k new r bits (signed_amount (extract_lane t bits index) bits) []
