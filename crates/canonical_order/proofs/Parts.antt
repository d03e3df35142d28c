-- The first operand without a number, and the walk from it. Assumes nothing.
use mathlib.Core.Path.{◌≡◌, refl, sym, ap, ◌∙◌, subst}
use mathlib.Core.Bool.{Bool, true, false, cond, false≢true}
use mathlib.Core.List.{List, [], ◌∷◌, ◌++◌}
use mathlib.Core.Logic.{◌⊎◌, inl, inr, ⊎_elim}
use Prim.Native.Nat.{ℕ, ◌+◌, ◌≤◌, ◌<◌}
use native.Mathlib.Omega.{arith}
use lib.Dec.{eqb}
use lib.ListN.{get_or}
use borrow.Author.Tests.{eqb-true, eqb-false}
use Rattle.terms.specs.Expr.{Expr}
use Rattle.pool.specs.Node.{Kind, bad, var, const, bv, compare, ite, extract, concat, zext, sext, code_of, Cell, cell_at, kind_number}
use Rattle.pool.specs.Unfold.{shape_of, unfold_at}
use Rattle.canonical.specs.Order.{parts, walk, add, AllIn}
use Rattle.canonical.proofs.Lists.{Kept, all-kept, in_all, all_old}
use Rattle.canonical.proofs.Trees.{All, visit, visit_all, visit-step, kept-visit}
use Rattle.pool_operands.proofs.ByKind.{bv-a, bv-b, bv-c, cmp-a, cmp-b, cmp-c, no}
use Rattle.pool_operands.specs.Operands.{has_a, has_b, has_c}
use Rattle.canonical_classes.specs.Class.{Classes}
use Rattle.canonical_classes.proofs.Keys.{NodeRead, kind_in}
use Rattle.canonical_order.specs.Walk.{pick, class_a, class_b, class_c, next_open, Set, Ready}

-- ---- parts by kind

pub parts_all : (P : Expr → Type 0) (κ : Kind) (k : Cell) (A B C : Expr) → (has_a (code_of κ) ≡ true → P A) → (has_b (code_of κ) ≡ true → P B) → (has_c (code_of κ) ≡ true → P C)
    → All P (parts (shape_of κ k A B C))
parts_all P bad k A B C f g h = tt
parts_all P var k A B C f g h = tt
parts_all P const k A B C f g h = tt
parts_all P (bv o) k A B C f g h = (f (bv-a o), (g (bv-b o), tt))
parts_all P (compare o) k A B C f g h = (f (cmp-a o), (g (cmp-b o), tt))
parts_all P ite k A B C f g h = (f refl, (g refl, (h refl, tt)))
parts_all P extract k A B C f g h = (f refl, tt)
parts_all P concat k A B C f g h = (f refl, (g refl, tt))
parts_all P zext k A B C f g h = (f refl, tt)
parts_all P sext k A B C f g h = (f refl, tt)

parts-a : (κ : Kind) (k : Cell) (A B C : Expr) → has_a (code_of κ) ≡ true → (rest : List Expr) × (parts (shape_of κ k A B C) ≡ A ∷ rest)
parts-a bad k A B C e = no refl e
parts-a var k A B C e = no refl e
parts-a const k A B C e = no refl e
parts-a (bv o) k A B C e = (_, refl)
parts-a (compare o) k A B C e = (_, refl)
parts-a ite k A B C e = (_, refl)
parts-a extract k A B C e = (_, refl)
parts-a concat k A B C e = (_, refl)
parts-a zext k A B C e = (_, refl)
parts-a sext k A B C e = (_, refl)

parts-b : (κ : Kind) (k : Cell) (A B C : Expr) → has_b (code_of κ) ≡ true → (rest : List Expr) × (parts (shape_of κ k A B C) ≡ A ∷ B ∷ rest)
parts-b bad k A B C e = no refl e
parts-b var k A B C e = no refl e
parts-b const k A B C e = no refl e
parts-b (bv o) k A B C e = (_, refl)
parts-b (compare o) k A B C e = (_, refl)
parts-b ite k A B C e = (_, refl)
parts-b extract k A B C e = no refl e
parts-b concat k A B C e = (_, refl)
parts-b zext k A B C e = no refl e
parts-b sext k A B C e = no refl e

parts-c : (κ : Kind) (k : Cell) (A B C : Expr) → has_c (code_of κ) ≡ true → (rest : List Expr) × (parts (shape_of κ k A B C) ≡ A ∷ B ∷ C ∷ rest)
parts-c bad k A B C e = no refl e
parts-c var k A B C e = no refl e
parts-c const k A B C e = no refl e
parts-c (bv o) k A B C e = no (bv-c o) e
parts-c (compare o) k A B C e = no (cmp-c o) e
parts-c ite k A B C e = (_, refl)
parts-c extract k A B C e = no refl e
parts-c concat k A B C e = no refl e
parts-c zext k A B C e = no refl e
parts-c sext k A B C e = no refl e

-- a third operand comes with a second, and a second with a first
b-of-c : (κ : Kind) → has_c (code_of κ) ≡ true → has_b (code_of κ) ≡ true
b-of-c bad e = no refl e
b-of-c var e = no refl e
b-of-c const e = no refl e
b-of-c (bv o) e = bv-b o
b-of-c (compare o) e = cmp-b o
b-of-c ite e = refl
b-of-c extract e = no refl e
b-of-c concat e = refl
b-of-c zext e = no refl e
b-of-c sext e = no refl e

a-of-b : (κ : Kind) → has_b (code_of κ) ≡ true → has_a (code_of κ) ≡ true
a-of-b bad e = no refl e
a-of-b var e = no refl e
a-of-b const e = no refl e
a-of-b (bv o) e = bv-a o
a-of-b (compare o) e = cmp-a o
a-of-b ite e = refl
a-of-b extract e = refl
a-of-b concat e = refl
a-of-b zext e = refl
a-of-b sext e = refl

-- ---- a visit again

-- all beneath p is in l
abbrev pub Beneath : List Expr → Expr → Type 0
Beneath l p = AllIn l (walk p)

pub visit-old : (l : List Expr) (p : Expr) → Beneath l p → visit l p ≡ l
visit-old l p h = all_old l (walk p) h

pub visits-old : (l ps : List Expr) → All (Beneath l) ps → visit_all l ps ≡ l
visits-old l [] h = refl
visits-old l (p ∷ ps) h = rw (visit-old l p h.0) (visits-old l ps h.1)

skip : (l before rest : List Expr) → All (Beneath l) before → visit_all l (before ++ rest) ≡ visit_all l rest
skip l [] rest h = refl
skip l (p ∷ before) rest h = ap (λ (x : List Expr). visit_all x (before ++ rest)) (visit-old l p h.0) ∙ skip l before rest h.1

all-beneath : {l m : List Expr} → Kept l m → (ps : List Expr) → All (Beneath l) ps → All (Beneath m) ps
all-beneath k [] h = tt
all-beneath k (p ∷ ps) h = (all-kept k (walk p) h.0, all-beneath k ps h.1)

-- an operand after operands that are done may be visited first
again : (l : List Expr) (t p : Expr) (before rest : List Expr) → parts t ≡ before ++ (p ∷ rest) → All (Beneath l) before → visit (visit l p) t ≡ visit l t
again l t p before rest e h =
    let m = visit l p in
    let twice : visit m p ≡ m = visit-old m p (in_all l (walk p)) in
    let one : visit_all m (before ++ (p ∷ rest)) ≡ visit_all m rest = skip m before (p ∷ rest) (all-beneath (kept-visit l p) before h) ∙ ap (λ (x : List Expr). visit_all x rest) twice in
    let two : visit_all l (before ++ (p ∷ rest)) ≡ visit_all m rest = skip l before (p ∷ rest) h in
    visit-step m t ∙ ap (λ (ps : List Expr). add (visit_all m ps) t) e ∙ ap (λ (x : List Expr). add x t) (one ∙ sym two) ∙ ap (λ (ps : List Expr). add (visit_all l ps) t) (sym e)
    ∙ sym (visit-step l t)

-- ---- the first operand without a number

picked : (there : Bool) (m : ℕ) (number : List ℕ) (rest : ℕ)
    → ((there ≡ true) × (get_or number m 0 ≡ 65535) × (pick there m number rest ≡ m)) ⊎ ((there ≡ true → Set number m) × (pick there m number rest ≡ rest))
picked false m number rest = inr (λ e. absurd (false≢true e), refl)
picked true m number rest = go (eqb (get_or number m 0) 65535) refl
  where
    go : (t : Bool) → eqb (get_or number m 0) 65535 ≡ t
        → ((true ≡ true) × (get_or number m 0 ≡ 65535) × (cond t m rest ≡ m)) ⊎ ((true ≡ true → Set number m) × (cond t m rest ≡ rest))
    go true e = inl (refl, eqb-true _ _ e, refl)
    go false e = inr (λ q. eqb-false _ _ e, refl)

pub record Opens (ws class number : List ℕ) (l : List Expr) (n m : ℕ) : Type 0 where
  pub less : m < n
  pub own : get_or class m 0 ≡ m
  pub unset : get_or number m 0 ≡ 65535
  pub visited : visit (visit l (unfold_at ws m)) (unfold_at ws n) ≡ visit l (unfold_at ws n)

-- node n is ready, or its first operand without a number may be visited first
abbrev pub Turned : (ws class number : List ℕ) → List Expr → (n m : ℕ) → Type 0
Turned ws class number l n m = (Ready ws class number n × (m ≡ 65535)) ⊎ Opens ws class number l n m

module _ (ws class number : List ℕ) (root : ℕ) (C : Classes ws (root + 1) class) (l : List Expr)
    (done : (m : ℕ) → m ≤ root → Set number m → Beneath l (unfold_at ws m)) (n : ℕ) (here : n ≤ root) (r : NodeRead ws n) where
  own-class : (p : ℕ) → p < n → get_or class (get_or class p 0) 0 ≡ get_or class p 0
  own-class p h = C.one (get_or class p 0) p (omega (arith, C.first p (omega arith))) (omega arith) (C.tree p (omega arith))

  -- an operand whose class has a number
  settled : (p : ℕ) → p < n → Set number (get_or class p 0) → Beneath l (unfold_at ws p)
  settled p h s = subst (Beneath l) (C.tree p (omega arith)) (done (get_or class p 0) (omega (arith, C.first p (omega arith))) s)

  opens : (p : ℕ) → p < n → get_or number (get_or class p 0) 0 ≡ 65535 → (before rest : List Expr) → parts (unfold_at ws n) ≡ before ++ (unfold_at ws p ∷ rest) → All (Beneath l) before
      → Opens ws class number l n (get_or class p 0)
  opens p h u before rest e b =
      record {
        less = omega (arith, C.first p (omega arith));
        own = own-class p h;
        unset = u;
        visited = rw (C.tree p (omega arith)) (again l (unfold_at ws n) (unfold_at ws p) before rest e b);
      }

  pub turned : Turned ws class number l n (next_open ws class number n)
  unfolding next_open
  turned =
      let k = cell_at ws n in
      let κ = kind_in ws n in
      let kn = kind_number ws n in
      let A = unfold_at ws k.a in
      let B = unfold_at ws k.b in
      let E = unfold_at ws k.c in
      let code : (f : ℕ → Bool) → f kn ≡ true → f (code_of κ) ≡ true = λ f e. rw (← r.code) e in
      let pc = pick (has_c kn) (class_c ws class n) number 65535 in
      let pb = pick (has_b kn) (class_b ws class n) number pc in
      ⊎_elim
      (λ a.
      let h : has_a (code_of κ) ≡ true = code has_a a.0 in
      let ps = parts-a κ k A B E h in
      inr (subst (Opens ws class number l n) (sym a.2) (opens k.a (r.less.a-less h) a.1 [] ps.0 (ap parts r.tree ∙ ps.1) tt)))
      (λ a.
      ⊎_elim
      (λ b.
      let h : has_b (code_of κ) ≡ true = code has_b b.0 in
      let ha : has_a (code_of κ) ≡ true = a-of-b κ h in
      let ps = parts-b κ k A B E h in
      inr
      (subst (Opens ws class number l n) (sym (a.1 ∙ b.2))
      (opens k.b (r.less.b-less h) b.1 (A ∷ []) ps.0 (ap parts r.tree ∙ ps.1) (settled k.a (r.less.a-less ha) (a.0 (rw r.code ha)), tt))))
      (λ b.
      ⊎_elim
      (λ e.
      let h : has_c (code_of κ) ≡ true = code has_c e.0 in
      let hb : has_b (code_of κ) ≡ true = b-of-c κ h in
      let ha : has_a (code_of κ) ≡ true = a-of-b κ hb in
      let ps = parts-c κ k A B E h in
      inr
      (subst (Opens ws class number l n) (sym (a.1 ∙ b.1 ∙ e.2))
      (opens k.c (r.less.c-less h) e.1 (A ∷ B ∷ []) ps.0 (ap parts r.tree ∙ ps.1)
      (settled k.a (r.less.a-less ha) (a.0 (rw r.code ha)), (settled k.b (r.less.b-less hb) (b.0 (rw r.code hb)), tt)))))
      (λ e. inl (record { a_set = a.0; b_set = b.0; c_set = e.0 }, a.1 ∙ b.1 ∙ e.1))
      (picked (has_c kn) (class_c ws class n) number 65535))
      (picked (has_b kn) (class_b ws class n) number pc))
      (picked (has_a kn) (class_a ws class n) number pb)

  -- all beneath the operands of a node that is ready
  pub ready-parts : Ready ws class number n → All (Beneath l) (parts (unfold_at ws n))
  ready-parts d =
      let k = cell_at ws n in
      subst (All (Beneath l)) (sym (ap parts r.tree))
      (parts_all (Beneath l) (kind_in ws n) k (unfold_at ws k.a) (unfold_at ws k.b) (unfold_at ws k.c)
      (λ e. settled k.a (r.less.a-less e) (d.a_set (rw r.code e)))
      (λ e. settled k.b (r.less.b-less e) (d.b_set (rw r.code e)))
      (λ e. settled k.c (r.less.c-less e) (d.c_set (rw r.code e))))
