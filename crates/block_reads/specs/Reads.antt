-- What a read of one register adds to the pool: nothing, or the cut of its low half (document 01, "Pool").
use Rattle.std.specs.Prelude.{Bool, true, false, cond, not, ◌&&◌, List, ◌≡◌, ℕ, ◌+◌, ◌≤◌, ◌<◌, length}
use Rattle.terms.specs.Expr.{Expr}
use Rattle.neon.specs.Op.{bits_if}
use Rattle.trees.specs.Trees.{read_tree}
use Rattle.pool.specs.declared.Node.{Node}
use Rattle.pool.specs.declared.Built.{Built}
use Rattle.pool.specs.Node.{width_at}
use Rattle.pool.specs.Rules.{Valid}
use Rattle.pool.specs.Unfold.{unfold_at}
use Rattle.pool.specs.Growth.{Grown, NodeIs}

-- node x is the cut of the register's low half: after the register's own node, of 64 bits, with the joined cut's term
pub record LowHalf (ws : List ℕ) (register x : ℕ) : Type 0 where
  pub after : register < x
  pub wide : width_at ws x ≡ 64
  pub tree : unfold_at ws x ≡ read_tree false (unfold_at ws register)

-- the nodes that a read adds: one for a low half, none for a whole register or if it is not used
abbrev pub half_read : (used whole : Bool) → ℕ
half_read used whole = cond (used && not whole) 1 0

pub record ReadMade (old : List ℕ) (k : ℕ) (new : List ℕ) (r : Built) (used whole : Bool) (register : Node) (t : Expr) : Type 0 where
  pub grown : Grown old k new r.count
  pub valid : Valid new r.count
  pub is : used ≡ true → NodeIs new r.count r.node.0 (bits_if whole) (read_tree whole t)
  pub halves : (x : ℕ) → k ≤ x → x < r.count → LowHalf new register.0 x

pub record Reads (old : List ℕ) (k : ℕ) (new : List ℕ) (r : Built) (used whole : Bool) (register : Node) : Type 0 where
  pub long : length new ≡ length old
  pub next : r.count ≡ k + half_read used whole
  pub under : used ≡ true → r.node.0 < r.count
  pub made : {t : Expr} → Valid old k → NodeIs old k register.0 128 t → ReadMade old k new r used whole register t
