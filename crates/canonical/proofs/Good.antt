-- The distinct subtrees of a term that keeps the rules keep them too. Assumes nothing.
use mathlib.Core.List.{List, [], ◌∷◌, ◌++◌}
use Prim.Native.Nat.{ℕ, zero, suc, ◌<◌}
use native.Mathlib.Omega.{arith}
use lib.ListN.{length}
use Rattle.terms.specs.Expr.{Expr, Var, Const, Bv, Compare, Ite, Extract, Concat, ZeroExtend, SignExtend}
use Rattle.terms.specs.Rules.{Good}
use Rattle.canonical.specs.Order.{parts, walk, add, add_all, postorder}
use Rattle.canonical.proofs.Lists.{by-add}
use Rattle.canonical.proofs.Trees.{All, by_parts, at, walks, walk-parts}

all_more : (P : Expr → Type 0) (l m : List Expr) → All P l → All P m → All P (l ++ m)
all_more P [] m a b = b
all_more P (x ∷ l) m a b = (a.0, all_more P l m a.1 b)

all-add : (P : Expr → Type 0) (l ts : List Expr) → All P l → All P ts → All P (add_all l ts)
unfolding add_all
all-add P l [] a b = a
all-add P l (t ∷ ts) a b = all-add P (add l t) ts (by-add (All P) l t (λ h. a) (λ h. all_more P l (t ∷ []) a (b.0, tt))) b.1

good-parts : (t : Expr) → Good t → All Good (parts t)
unfolding Good
good-parts (Var r) g = tt
good-parts (Const v w) g = tt
good-parts (Bv o a b) g = (g.0, (g.1, tt))
good-parts (Compare o a b) g = (g.0, (g.1, tt))
good-parts (Ite c a b) g = (g.0, (g.1, (g.2, tt)))
good-parts (Extract a hi lo) g = (g.0, tt)
good-parts (Concat a b) g = (g.0, (g.1, tt))
good-parts (ZeroExtend a w) g = (g.0, tt)
good-parts (SignExtend a w) g = (g.0, tt)

good-walks : (ts : List Expr) → All (λ t. Good t → All Good (walk t)) ts → All Good ts → All Good (walks ts)
good-walks [] a g = tt
good-walks (t ∷ ts) a g = all_more Good (walk t) (walks ts) (a.0 g.0) (good-walks ts a.1 g.1)

good-walk : (t : Expr) → Good t → All Good (walk t)
good-walk =
    by_parts (λ t. Good t → All Good (walk t))
    (λ t a g. rw (walk-parts t) (all_more Good (walks (parts t)) (t ∷ []) (good-walks (parts t) a (good-parts t g)) (g, tt)))

pub good-order : (t : Expr) → Good t → All Good (postorder t)
unfolding postorder
good-order t g = all-add Good [] (walk t) tt (good-walk t g)

pub all-at : (P : Expr → Type 0) (l : List Expr) (i : ℕ) → All P l → i < length l → P (at l i)
all-at P [] i a h = absurd (omega arith)
all-at P (x ∷ l) zero a h = a.0
all-at P (x ∷ l) (suc i) a h = all-at P l i a.1 (omega arith)
