-- The distinct subtrees of a term in the order of a walk: operands come first, the term comes last. Assumes nothing.
use mathlib.Core.Path.{◌≡◌, refl, sym, ap, ◌∙◌, subst}
use mathlib.Core.List.{List, [], ◌∷◌, ◌++◌, append_assoc}
use Prim.Native.Nat.{ℕ, zero, suc, ◌+◌, ◌≤◌, ◌<◌}
use native.Mathlib.Omega.{arith}
use lib.ListN.{length, get_or, length-append, get_or-append}
use Rattle.terms.specs.Expr.{Expr, Var, Const, Bv, Compare, Ite, Extract, Concat, ZeroExtend, SignExtend}
use Rattle.canonical.specs.Order.{parts, walk, place, add, add_all, postorder, In, AllIn}
use Rattle.canonical.proofs.Lists.{at_place, place-append, add-new, by-add, in-add, Kept, kept_refl, kept_in, kept_trans, kept-all, all_append}
use borrow.Author.Tests.{ltb-false, ltb-true}
use lib.Dec.{ltb}
use mathlib.Core.Bool.{Bool, false, true}

-- ---- induction over the operands

abbrev pub All : (Expr → Type 0) → List Expr → Type 0
All P [] = Unit {0}
All P (t ∷ ts) = P t × All P ts

pub by_parts : (P : Expr → Type 0) → ((t : Expr) → All P (parts t) → P t) → (t : Expr) → P t
by_parts P f (Var r) = f (Var r) tt
by_parts P f (Const v w) = f (Const v w) tt
by_parts P f (Bv o a b) = f (Bv o a b) (by_parts P f a, (by_parts P f b, tt))
by_parts P f (Compare o a b) = f (Compare o a b) (by_parts P f a, (by_parts P f b, tt))
by_parts P f (Ite c a b) = f (Ite c a b) (by_parts P f c, (by_parts P f a, (by_parts P f b, tt)))
by_parts P f (Extract a hi lo) = f (Extract a hi lo) (by_parts P f a, tt)
by_parts P f (Concat a b) = f (Concat a b) (by_parts P f a, (by_parts P f b, tt))
by_parts P f (ZeroExtend a w) = f (ZeroExtend a w) (by_parts P f a, tt)
by_parts P f (SignExtend a w) = f (SignExtend a w) (by_parts P f a, tt)

-- ---- a walk is the operands' walks, and then the term

-- l with the distinct subtrees of t added
abbrev pub visit : List Expr → Expr → List Expr
visit l t = add_all l (walk t)

abbrev pub visit_all : List Expr → List Expr → List Expr
visit_all l [] = l
visit_all l (t ∷ ts) = visit_all (visit l t) ts

abbrev pub walks : List Expr → List Expr
walks [] = []
walks (t ∷ ts) = walk t ++ walks ts

pub walk-parts : (t : Expr) → walk t ≡ walks (parts t) ++ (t ∷ [])
unfolding walk
walk-parts (Var r) = refl
walk-parts (Const v w) = refl
walk-parts (Bv o a b) = simp append_assoc
walk-parts (Compare o a b) = simp append_assoc
walk-parts (Ite c a b) = simp append_assoc
walk-parts (Extract a hi lo) = simp append_assoc
walk-parts (Concat a b) = simp append_assoc
walk-parts (ZeroExtend a w) = simp append_assoc
walk-parts (SignExtend a w) = simp append_assoc

visit-walks : (l ts : List Expr) → add_all l (walks ts) ≡ visit_all l ts
unfolding add_all
visit-walks l [] = refl
visit-walks l (t ∷ ts) = all_append l (walk t) (walks ts) ∙ visit-walks (visit l t) ts

pub visit-step : (l : List Expr) (t : Expr) → visit l t ≡ add (visit_all l (parts t)) t
unfolding add_all
visit-step l t =
    ap (add_all l) (walk-parts t) ∙ all_append l (walks (parts t)) (t ∷ []) ∙ ap (λ m. add m t) (visit-walks l (parts t))

pub kept-visit : (l : List Expr) (t : Expr) → Kept l (visit l t)
kept-visit l t = kept-all l (walk t)

pub kept-visits : (l ts : List Expr) → Kept l (visit_all l ts)
kept-visits l [] = kept_refl l
kept-visits l (t ∷ ts) = kept_trans (kept-visit l t) (kept-visits (visit l t) ts)

pub in-visit : (l : List Expr) (t : Expr) → In (visit l t) t
in-visit l t = subst (λ m. In m t) (sym (visit-step l t)) (in-add (visit_all l (parts t)) t)

pub in-visits : (l ts : List Expr) → AllIn (visit_all l ts) ts
in-visits l [] = tt
in-visits l (t ∷ ts) = (kept_in (kept-visits (visit l t) ts) t (in-visit l t), in-visits (visit l t) ts)

-- ---- operands come first

-- each of ps is before place i
abbrev pub Before : List Expr → ℕ → List Expr → Type 0
Before l i [] = Unit {0}
Before l i (p ∷ ps) = (place l p < i) × Before l i ps

abbrev pub at : List Expr → ℕ → Expr
at l i = get_or l i (Var 0)

abbrev pub Closed : List Expr → Type 0
Closed l = (i : ℕ) → i < length l → Before l i (parts (at l i))

before-kept : (l m : List Expr) (i : ℕ) (ps : List Expr) → i ≤ length l → Before l i ps → Before (l ++ m) i ps
before-kept l m i [] h b = tt
before-kept l m i (p ∷ ps) h b = (omega (arith, place-append l m p (omega (arith, b.0)), b.0), before-kept l m i ps h b.1)

all-before : (l m ps : List Expr) → AllIn l ps → Before (l ++ m) (length l) ps
all-before l m [] h = tt
all-before l m (p ∷ ps) h = (omega (arith, place-append l m p h.0, h.0), all-before l m ps h.1)

at-end : (l : List Expr) (t : Expr) → at (l ++ (t ∷ [])) (length l) ≡ t
at-end [] t = refl
at-end (x ∷ l) t = at-end l t

at_front : (l m : List Expr) (i : ℕ) → i < length l → at (l ++ m) i ≡ at l i
at_front l m i h = get_or-append l m (Var 0) i h

closed-more : (l : List Expr) (t : Expr) → Closed l → AllIn l (parts t) → Closed (l ++ (t ∷ []))
closed-more l t c a i h = go (ltb i (length l)) refl
  where
    go : (s : Bool) → ltb i (length l) ≡ s → Before (l ++ (t ∷ [])) i (parts (at (l ++ (t ∷ [])) i))
    go true e =
        let h = ltb-true _ _ e in
        rw (at_front l (t ∷ []) i h) (before-kept l (t ∷ []) i (parts (at l i)) (omega arith) (c i h))
    go false e =
        let g : length l ≤ i = ltb-false _ _ e in
        let q : i ≡ length l = omega (arith, length-append l (t ∷ [])) in
        rw (q, at-end l t) (all-before l (t ∷ []) (parts t) a)

closed-visits : (ts l : List Expr) → All (λ t. (l : List Expr) → Closed l → Closed (visit l t)) ts → Closed l → Closed (visit_all l ts)
closed-visits [] l a c = c
closed-visits (t ∷ ts) l a c = closed-visits ts (visit l t) a.1 (a.0 l c)

pub closed-visit : (t : Expr) (l : List Expr) → Closed l → Closed (visit l t)
closed-visit =
    by_parts (λ t. (l : List Expr) → Closed l → Closed (visit l t))
    (λ t a l c.
    let m = visit_all l (parts t) in
    let k : Closed m = closed-visits (parts t) l a c in
    subst Closed (sym (visit-step l t)) (by-add Closed m t (λ h. k) (λ h. closed-more m t k (in-visits l (parts t)))))

pub closed-order : (t : Expr) → Closed (postorder t)
unfolding postorder
closed-order t = closed-visit t [] (λ i h. absurd (omega arith))

-- ---- the term comes last

abbrev size : Expr → ℕ
size (Var r) = 1
size (Const v w) = 1
size (Bv o a b) = 1 + size a + size b
size (Compare o a b) = 1 + size a + size b
size (Ite c a b) = 1 + size c + size a + size b
size (Extract a hi lo) = 1 + size a
size (Concat a b) = 1 + size a + size b
size (ZeroExtend a w) = 1 + size a
size (SignExtend a w) = 1 + size a

abbrev Small : ℕ → List Expr → Type 0
Small n l = All (λ t. size t < n) l

small-more : (n : ℕ) (l m : List Expr) → Small n l → Small n m → Small n (l ++ m)
small-more n [] m a b = b
small-more n (x ∷ l) m a b = (a.0, small-more n l m a.1 b)

small-up : (n m : ℕ) (l : List Expr) → n ≤ m → Small n l → Small m l
small-up n m [] h a = tt
small-up n m (x ∷ l) h a = (omega (arith, a.0), small-up n m l h a.1)

small_all : (n : ℕ) (l ts : List Expr) → Small n l → Small n ts → Small n (add_all l ts)
unfolding add_all
small_all n l [] a b = a
small_all n l (t ∷ ts) a b = small_all n (add l t) ts (by-add (λ m. Small n m) l t (λ h. a) (λ h. small-more n l (t ∷ []) a (b.0, tt))) b.1

parts-small : (t : Expr) → Small (size t) (parts t)
parts-small (Var r) = tt
parts-small (Const v w) = tt
parts-small (Bv o a b) = (omega arith, (omega arith, tt))
parts-small (Compare o a b) = (omega arith, (omega arith, tt))
parts-small (Ite c a b) = (omega arith, (omega arith, (omega arith, tt)))
parts-small (Extract a hi lo) = (omega arith, tt)
parts-small (Concat a b) = (omega arith, (omega arith, tt))
parts-small (ZeroExtend a w) = (omega arith, tt)
parts-small (SignExtend a w) = (omega arith, tt)

walks-small : (n : ℕ) (ts : List Expr) → All (λ t. Small (suc (size t)) (walk t)) ts → Small n ts → Small n (walks ts)
walks-small n [] a b = tt
walks-small n (t ∷ ts) a b = small-more n (walk t) (walks ts) (small-up (suc (size t)) n (walk t) b.0 a.0) (walks-small n ts a.1 b.1)

walk-small : (t : Expr) → Small (suc (size t)) (walk t)
walk-small =
    by_parts (λ t. Small (suc (size t)) (walk t))
    (λ t a.
    rw (walk-parts t)
    (small-more (suc (size t)) (walks (parts t)) (t ∷ []) (small-up (size t) (suc (size t)) (walks (parts t)) (omega arith) (walks-small (size t) (parts t) a (parts-small t)))
    (omega arith, tt)))

all-walks-small : (ts : List Expr) → All (λ t. Small (suc (size t)) (walk t)) ts
all-walks-small [] = tt
all-walks-small (t ∷ ts) = (walk-small t, all-walks-small ts)

-- a term larger than all of l is not in it
small-out : (l : List Expr) (t : Expr) → Small (size t) l → length l ≤ place l t
small-out l t a = go (ltb (place l t) (length l)) refl
  where
    small_at : (l : List Expr) (i : ℕ) → Small (size t) l → i < length l → size (at l i) < size t
    small_at [] i a h = absurd (omega arith)
    small_at (x ∷ l) zero a h = a.0
    small_at (x ∷ l) (suc i) a h = small_at l i a.1 (omega arith)

    go : (s : Bool) → ltb (place l t) (length l) ≡ s → length l ≤ place l t
    go true e =
        let h = ltb-true _ _ e in
        absurd (omega (arith, small_at l (place l t) a h, ap size (at_place l t (Var 0) h)))
    go false e = ltb-false _ _ e

-- the distinct subtrees of t's operands, and then t
pub order-last : (t : Expr) → postorder t ≡ visit_all [] (parts t) ++ (t ∷ [])
unfolding postorder
order-last t =
    let m = visit_all [] (parts t) in
    visit-step [] t
    ∙ add-new m t
    (small-out m t (subst (Small (size t)) (visit-walks [] (parts t))
    (small_all (size t) [] (walks (parts t)) tt (walks-small (size t) (parts t) (all-walks-small (parts t)) (parts-small t)))))

-- the last place
pub root : Expr → ℕ
root t = length (visit_all [] (parts t))

pub order-length : (t : Expr) → length (postorder t) ≡ suc (root t)
unfolding root
order-length t = ap length (order-last t) ∙ omega (arith, length-append (visit_all [] (parts t)) (t ∷ []))

pub at-root : (t : Expr) → at (postorder t) (root t) ≡ t
unfolding root
at-root t = rw (order-last t) (at-end (visit_all [] (parts t)) t)
