-- Cuts: the node that a cut is taken from, and what the builders of cuts say.
use Rattle.std.specs.Prelude.{Bool, ◌&&◌, List, [], ◌≡◌, ℕ, ◌+◌, ◌-◌, ◌*◌, ◌≤◌, ◌<◌, leb, ltb, eqb}
use Rattle.terms.specs.Expr.{Expr, Extract}
use Rattle.pool.specs.declared.Node.{Node}
use Rattle.pool.specs.declared.Built.{Built}
use Rattle.pool.specs.Node.{kind_number, word_at}
use Rattle.pool_fields.specs.Fields.{op_a}
use Rattle.pool.specs.Rules.{Valid}
use Rattle.pool.specs.Growth.{NodeIs}
use Rattle.pool_nodes.specs.Builders.{Takes, Makes}
use Rattle.trees.specs.Simd.{extract_collapsing}
use Rattle.trees.specs.Trees.{extract_lane}

-- a cut of node v up to bit hi rises if v is an Extract
abbrev pub rises_at : List ℕ → ℕ → ℕ → Bool
rises_at ws v hi = eqb (kind_number ws v) 16 && ltb (op_a ws v) v && leb (word_at ws v 3) (128 - hi)

-- a cut of the term t up to bit hi is taken from node n, of which the term is no Extract, `by` bits higher; so is each cut inside it
pub record Source (ws : List ℕ) (k : ℕ) (t : Expr) (hi n by : ℕ) : Type 0 where
  pub width : ℕ
  pub term : Expr
  pub is : NodeIs ws k n width term
  pub inside : hi + by < width
  pub plain : (h l : ℕ) → extract_collapsing term h l ≡ Extract term h l
  pub same : (h l : ℕ) → h ≤ hi → extract_collapsing t h l ≡ extract_collapsing term (h + by) (l + by)

-- from where a cut of node v is taken: the numbers, whatever the pool holds; and what that is in a valid pool
pub record CutFrom (ws : List ℕ) (v hi n by : ℕ) : Type 0 where
  pub below : n ≤ v
  pub small : hi + by ≤ 128
  pub from : {k w : ℕ} {t : Expr} → Valid ws k → hi < w → NodeIs ws k v w t → Source ws k t hi n by

-- `extract_collapsing` and `extract_lane`, at any width w of the operand. The answer may not reach the operand: a joined cut goes past it.
module _ (old : List ℕ) (k : ℕ) (new : List ℕ) (r : Built) where
  pub record MadeCut (value : Node) (hi lo : ℕ) : Type 0 where
    pub sized : Takes old k new r 1
    pub at : r.node.0 ≡ k
    pub next : r.count ≡ k + 1
    pub made : {w u : ℕ} {t : Expr} → Valid old k → hi < w → hi - lo + 1 ≡ u → NodeIs old k value.0 w t
        → Makes old k new r u (extract_collapsing t hi lo) []

  pub record MadeLane (value : Node) (bits index : ℕ) : Type 0 where
    pub sized : Takes old k new r 1
    pub made : {w : ℕ} {t : Expr} → Valid old k → bits * index + bits ≤ w → NodeIs old k value.0 w t
        → Makes old k new r bits (extract_lane t bits index) []
