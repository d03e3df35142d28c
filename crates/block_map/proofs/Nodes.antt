-- The entries of a map: of the first one, of the one of a refused block, and of one that is written. Assumes nothing.
use mathlib.Core.Path.{◌≡◌, refl, ap, ◌∙◌}
use mathlib.Core.List.{List}
use mathlib.Core.Bool.{Bool, true, false, cond}
use Prim.Native.Nat.{ℕ, zero, suc, ◌+◌, ◌<◌}
use native.Mathlib.Omega.{arith}
use native.Mathlib.Nat.{add-zero, zero-add, add-suc, suc-add, le_of_suc-le-suc, not-suc-le-zero}
use lib.Dec.{eqb}
use lib.ListN.{length, get_or}
use lib.Seq.{ext_get_or, get_or-set_same, get_or-set_other}
use borrow.Author.Tests.{eqb-true, eqb-false}
use Rattle.pool.specs.declared.Node.{Node}
use Rattle.block_map.specs.declared.RegisterMap.{RegisterMap}
use Rattle.block_map.specs.Map.{node, node_of, nodes_from, first_map, written}

from-length : (r k : ℕ) → length (nodes_from r k) ≡ k
unfolding nodes_from
from-length r zero = refl
from-length r (suc k) = ap suc (from-length (suc r) k)

from_at : (r k j : ℕ) → j < k → get_or (nodes_from r k) j (node 0) ≡ node (r + j)
unfolding nodes_from
from_at r zero j h = absurd (not-suc-le-zero h)
from_at r (suc k) zero h = ap node (rw (add-zero r))
from_at r (suc k) (suc j) h = from_at (suc r) k j (le_of_suc-le-suc h) ∙ ap node (rw (suc-add r j, add-suc r j))

-- a list whose entry i is node i, up to 32
pub is-first : (l : List Node) → length l ≡ 32 → ((i : ℕ) → i < 32 → get_or l i (node 0) ≡ node i) → l ≡ nodes_from 0 32
is-first l e f =
    ext_get_or (node 0) l (nodes_from 0 32) (rw (e, from-length 0 32))
    (λ i h. f i (omega (arith, e)) ∙ rw (from_at 0 32 i (omega (arith, e)), zero-add i))

-- ---- what the maps hold

pub first-is : (r : ℕ) → r < 32 → node_of first_map r ≡ r
first-is r h = ap (λ (n : Node). n.0) (from_at 0 32 r h) ∙ zero-add r

pub written_is : (m : RegisterMap) (d n count r : ℕ) → d < length m.nodes → node_of (written m d n count) r ≡ cond (eqb r d) n (node_of m r)
written_is m d n count r h = go (eqb r d) refl
  where
    go : (b : Bool) → eqb r d ≡ b → node_of (written m d n count) r ≡ cond b n (node_of m r)
    go true q = rw (eqb-true r d q) (ap (λ (x : Node). x.0) (get_or-set_same m.nodes d (node n) (node 0) h))
    go false q = ap (λ (x : Node). x.0) (get_or-set_other m.nodes d r (node n) (node 0) (eqb-false r d q))
