-- Builders over the bits of a lane. The lane has no node of its own: its bits, `base` and up, are cut from a node whose term is no Extract, so
-- that each cut is the joined one.
use Rattle.std.specs.Prelude.{List, ◌≡◌, ℕ, ◌+◌, ◌-◌, ◌≤◌}
use Rattle.terms.specs.Expr.{Expr, Extract}
use Rattle.pool.specs.declared.Node.{Node}
use Rattle.pool.specs.declared.Built.{Built}
use Rattle.pool.specs.Rules.{Valid}
use Rattle.pool.specs.Growth.{NodeIs}
use Rattle.pool_nodes.specs.Builders.{Takes, Makes}
use Rattle.trees.specs.Simd.{extract_collapsing}

-- a term that no cut is joined with
abbrev pub Plain : Expr → Type 0
Plain v = (h l : ℕ) → extract_collapsing v h l ≡ Extract v h l

-- the lane of n bits
abbrev pub lane_from : Expr → (base n : ℕ) → Expr
lane_from v base n = Extract v (n - 1 + base) base

-- bit j of the lane that is reversed; a is what the lane is of
abbrev pub reversed_from : (base n : ℕ) (d a b : Expr) → ℕ → Expr
reversed_from base n d a b j = Extract a (n - 1 - j + base) (n - 1 - j + base)

module _ (old : List ℕ) (k : ℕ) (new : List ℕ) (r : Built) where
  -- a term over the lane, and one over it and a second operand
  pub record BuildsLane (m : ℕ) (a : Node) (base n w : ℕ) (t : Expr → Expr) (ins : List ℕ) : Type 0 where
    pub sized : Takes old k new r m
    pub made : {wa : ℕ} {ta : Expr} → Valid old k → Plain ta → base + n ≤ wa → NodeIs old k a.0 wa ta → Makes old k new r w (t (lane_from ta base n)) ins

  pub record BuildsLane2 (m : ℕ) (a : Node) (base n : ℕ) (b : Node) (wb w : ℕ) (t : Expr → Expr → Expr) (ins : List ℕ) : Type 0 where
    pub sized : Takes old k new r m
    pub made : {wa : ℕ} {ta tb : Expr} → Valid old k → Plain ta → base + n ≤ wa → NodeIs old k a.0 wa ta → NodeIs old k b.0 wb tb
        → Makes old k new r w (t (lane_from ta base n) tb) ins
