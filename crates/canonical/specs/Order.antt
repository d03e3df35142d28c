-- The order of a canonical pool (document 02, S-13): the distinct subtrees of a term, as a left-first walk finishes them.
use Rattle.std.specs.Prelude.{cond, List, [], ◌∷◌, ◌++◌, ℕ, suc, ◌<◌, ltb, length}
use Rattle.terms.specs.Expr.{Expr, Var, Const, Bv, Compare, Ite, Extract, Concat, ZeroExtend, SignExtend}
use Rattle.canonical.specs.Same.{same}

-- a term's operands, from the left
abbrev pub parts : Expr → List Expr
parts (Var r) = []
parts (Const v w) = []
parts (Bv o a b) = a ∷ b ∷ []
parts (Compare o a b) = a ∷ b ∷ []
parts (Ite c a b) = c ∷ a ∷ b ∷ []
parts (Extract a hi lo) = a ∷ []
parts (Concat a b) = a ∷ b ∷ []
parts (ZeroExtend a w) = a ∷ []
parts (SignExtend a w) = a ∷ []

-- the subtrees of a term, each as often as it occurs, in the order in which a left-first walk finishes them
unfoldable pub walk : Expr → List Expr
walk (Var r) = Var r ∷ []
walk (Const v w) = Const v w ∷ []
walk (Bv o a b) = walk a ++ (walk b ++ (Bv o a b ∷ []))
walk (Compare o a b) = walk a ++ (walk b ++ (Compare o a b ∷ []))
walk (Ite c a b) = walk c ++ (walk a ++ (walk b ++ (Ite c a b ∷ [])))
walk (Extract a hi lo) = walk a ++ (Extract a hi lo ∷ [])
walk (Concat a b) = walk a ++ (walk b ++ (Concat a b ∷ []))
walk (ZeroExtend a w) = walk a ++ (ZeroExtend a w ∷ [])
walk (SignExtend a w) = walk a ++ (SignExtend a w ∷ [])

-- the first place of t in l, counted from 0; the length of l if it has none
unfoldable pub place : List Expr → Expr → ℕ
place [] t = 0
place (x ∷ l) t = elim (same x t) [ yes e ↦ 0 | no e ↦ suc (place l t) ]

-- t after l, unless it is there already
unfoldable pub add : List Expr → Expr → List Expr
add l t = cond (ltb (place l t) (length l)) l (l ++ (t ∷ []))

unfoldable pub add_all : List Expr → List Expr → List Expr
add_all l [] = l
add_all l (t ∷ ts) = add_all (add l t) ts

-- each distinct subtree once, where the walk first finishes it
unfoldable pub postorder : Expr → List Expr
postorder t = add_all [] (walk t)

-- t is in l; each of ts is
abbrev pub In : List Expr → Expr → Type 0
In l t = place l t < length l

abbrev pub AllIn : List Expr → List Expr → Type 0
AllIn l [] = Unit {0}
AllIn l (t ∷ ts) = In l t × AllIn l ts
