-- The turns of the walk. Assumes nothing.
use mathlib.Core.Path.{◌≡◌, refl, sym, ap, ◌∙◌, subst}
use mathlib.Core.Bool.{Bool, true, false}
use mathlib.Core.List.{List, [], ◌∷◌, ◌++◌}
use Prim.Native.Nat.{ℕ, zero, suc, ◌+◌, ◌-◌, ◌≤◌, ◌<◌}
use native.Mathlib.Omega.{arith}
use native.Mathlib.Numerals.{add-one}
use lib.Dec.{eqb, ltb}
use lib.ListN.{length, get_or, set, length-set}
use lib.Seq.{get_or-set_same, get_or-set_other}
use borrow.Author.Tests.{eqb-true, eqb-false, ltb-true, ltb-false}
use Rattle.terms.specs.Expr.{Expr, Var}
use Rattle.pool.specs.Unfold.{unfold_at}
use Rattle.canonical.specs.Order.{parts, walk, place, add, In, AllIn}
use Rattle.canonical.proofs.Lists.{at_place, place-new, add-new, Kept, kept-add, all-kept, in_all}
use Rattle.canonical.proofs.Trees.{visit, visit-step, in-visit}
use Rattle.canonical_classes.specs.Class.{Classes}
use Rattle.pool.specs.Rules.{Valid}
use Rattle.canonical_classes.proofs.Steps.{by_last}
use Rattle.canonical_classes.proofs.Keys.{NodeRead, node-read}
use mathlib.Core.Logic.{⊎_elim}
use Rattle.canonical_order.specs.Walk.{next_open, listed, pending, Set, Ready, Done, Walking, top, Stepped}
use Rattle.canonical_order.proofs.Lists.{listed-length, listed_same, listed_at, pending-same, none-less, none-some}
use Rattle.canonical_order.proofs.Parts.{Beneath, visit-old, visits-old, Opens, Turned, turned, ready-parts}

-- what holds at n, and at each other number, holds everywhere
by-eq : (P : ℕ → Type 0) (n m : ℕ) → P n → ((m ≡ n → ⊥) → P m) → P m
by-eq P n m p f = go (eqb m n) refl
  where
    go : (t : Bool) → eqb m n ≡ t → P m
    go true e = subst P (sym (eqb-true m n e)) p
    go false e = f (eqb-false m n e)

-- a term is beneath itself
in-own : (l : List Expr) (t : Expr) → Beneath l t → In l t
in-own l t h = subst (λ (m : List Expr). In m t) (visit-old l t h) (in-visit l t)

top-le : (stack : List ℕ) (d x : ℕ) → ((i : ℕ) → i < d → get_or stack i 0 ≤ x) → top stack d ≤ x + 1
top-le stack zero x f = omega arith
top-le stack (suc d) x f = omega (arith, f d (omega arith))

module _ (ws class : List ℕ) (root : ℕ) (C : Classes ws (root + 1) class) (small : root < 65535) (number order : List ℕ) (k : ℕ) (stack : List ℕ) (d : ℕ)
    (W : Walking ws class root number order k stack (suc d)) where
  abbrev n : ℕ
  n = get_or stack d 0

  abbrev L : List Expr
  L = listed ws order k

  n-le : n + d ≤ root
  n-le = W.deep d (omega arith)

  n-open : get_or number n 0 ≡ 65535
  n-open = (W.waits d (omega arith)).1

  n-own : get_or class n 0 ≡ n
  n-own = (W.waits d (omega arith)).0

  k-less : k < 65535
  k-less = omega (arith, W.few, none-some number (root + 1) n (omega (arith, n-le)) n-open, small)

  beneath-all : (m : ℕ) → m ≤ root → Set number m → Beneath L (unfold_at ws m)
  beneath-all m h s = (W.done m h s).beneath

  -- the tree of a node without a number is not listed
  fresh : length L ≤ place L (unfold_at ws n)
  fresh = go (ltb (place L (unfold_at ws n)) (length L)) refl
    where
      go : (t : Bool) → ltb (place L (unfold_at ws n)) (length L) ≡ t → length L ≤ place L (unfold_at ws n)
      go true e =
          let h : In L (unfold_at ws n) = ltb-true _ _ e in
          let j = place L (unfold_at ws n) in
          let lj : j < k = omega (arith, h, listed-length ws order k) in
          let o = W.node j lj in
          let q = get_or order j 0 in
          let same : unfold_at ws q ≡ unfold_at ws n = sym (listed_at ws order k j lj) ∙ at_place L (unfold_at ws n) (Var 0) h in
          let own : get_or class q 0 ≡ q = (W.done q o.0 o.1).own in
          let qn : q ≡ n = sym own ∙ C.one q n (omega (arith, o.0)) (omega (arith, n-le)) same ∙ n-own in
          absurd (o.1 (ap (λ (i : ℕ). get_or number i 0) qn ∙ n-open))
      go false e = ltb-false _ _ e

  -- ---- the top is ready: it gets its number

  module _ (ready : Ready ws class number n) (r : NodeRead ws n) where
    number' : List ℕ
    number' = set number n k

    order' : List ℕ
    order' = set order k n

    abbrev L' : List Expr
    L' = L ++ (unfold_at ws n ∷ [])

    visited : visit L (unfold_at ws n) ≡ L'
    visited =
        visit-step L (unfold_at ws n)
        ∙ ap (λ (m : List Expr). add m (unfold_at ws n))
        (visits-old L (parts (unfold_at ws n)) (ready-parts ws class number root C L beneath-all n (omega (arith, n-le)) r ready))
        ∙ add-new L (unfold_at ws n) fresh

    listed' : listed ws order' (k + 1) ≡ L'
    unfolding listed order'
    listed' =
        let e : get_or (set order k n) k 0 ≡ n = get_or-set_same order k n 0 (omega (arith, W.order_long, k-less)) in
        let f : listed ws (set order k n) k ≡ L = listed_same ws (set order k n) order k (λ j h. get_or-set_other order k j n 0 (omega arith)) in
        rw (add-one k) (λ i. f i ++ (unfold_at ws (e i) ∷ []))

    at_n : get_or number' n 0 ≡ k
    unfolding number'
    at_n = get_or-set_same number n k 0 (omega (arith, W.number_long, n-le, small))

    at-m : (m : ℕ) → (m ≡ n → ⊥) → get_or number' m 0 ≡ get_or number m 0
    unfolding number'
    at-m m h = get_or-set_other number n m k 0 h

    set_more : (m : ℕ) → Set number m → Set number' m
    set_more m s = by-eq (Set number') n m (λ e. omega (arith, e, at_n, k-less)) (λ h e. s (sym (at-m m h) ∙ e))

    ready-more : (m : ℕ) → Ready ws class number m → Ready ws class number' m
    ready-more m q = record { a_set = λ e. set_more _ (q.a_set e); b_set = λ e. set_more _ (q.b_set e); c_set = λ e. set_more _ (q.c_set e) }

    kept : Kept L L'
    kept = subst (Kept L) (add-new L (unfold_at ws n) fresh) (kept-add L (unfold_at ws n))

    done-n : Done ws class number' L' n
    done-n =
        record {
          own = n-own;
          number_is = at_n ∙ sym (place-new L (unfold_at ws n) fresh ∙ listed-length ws order k);
          beneath = subst (λ (m : List Expr). AllIn m (walk (unfold_at ws n))) visited (in_all L (walk (unfold_at ws n)));
          ready = ready-more n ready;
        }

    done-m : (m : ℕ) → (m ≡ n → ⊥) → Done ws class number L m → Done ws class number' L' m
    done-m m h q =
        record {
          own = q.own;
          number_is = at-m m h ∙ q.number_is ∙ sym (kept.stays (unfold_at ws m) (in-own L (unfold_at ws m) q.beneath));
          beneath = all-kept kept (walk (unfold_at ws m)) q.beneath;
          ready = ready-more m q.ready;
        }

    walking : Walking ws class root number' order' (k + 1) stack d
    unfolding pending number' order'
    walking =
        record {
          number_long = simp length-set W.number_long;
          order_long = simp length-set W.order_long;
          stack_long = W.stack_long;
          few =
              omega (arith, W.few, none-less number (root + 1) n k (omega (arith, n-le)) (omega (arith, W.number_long, n-le, small)) n-open (λ e. omega (arith, e, k-less)));
          done = λ m h s. rw listed' (by-eq (λ m. m ≤ root → Set number' m → Done ws class number' L' m) n m (λ h s. done-n) (λ f h s. done-m m f (W.done m h (λ e. s (at-m m f ∙ e)))) h s);
          node = by_last (λ j. (get_or order' j 0 ≤ root) × Set number' (get_or order' j 0) × (get_or number' (get_or order' j 0) 0 ≡ j)) k
              (let e : get_or order' k 0 ≡ n = get_or-set_same order k n 0 (omega (arith, W.order_long, k-less)) in
              rw e (omega (arith, n-le), (λ q. omega (arith, q, at_n, k-less)), at_n))
              (λ j h.
              let e : get_or order' j 0 ≡ get_or order j 0 = get_or-set_other order k j n 0 (omega arith) in
              let o = W.node j h in
              let f : get_or order j 0 ≡ n → ⊥ = λ q. o.1 (ap (λ (i : ℕ). get_or number i 0) q ∙ n-open) in
              rw e (o.0, set_more _ o.1, at-m _ f ∙ o.2));
          deep = λ i h. W.deep i (omega arith);
          falling = λ i j h g. W.falling i j h (omega arith);
          waits = λ i h.
              let q = W.waits i (omega arith) in
              (q.0, at-m _ (λ e. omega (arith, e, W.falling i d h (omega arith))) ∙ q.1);
          left = ap (pending ws stack d) (listed' ∙ sym visited) ∙ W.left;
        }

    pub finished : Stepped ws class root number stack (suc d) (set number n k) (set order k n) (k + 1) stack d
    unfolding number' order'
    finished =
        record {
          walking = walking;
          less =
              omega (
                arith,
                none-less number (root + 1) n k (omega (arith, n-le)) (omega (arith, W.number_long, n-le, small)) n-open (λ e. omega (arith, e, k-less)),
                top-le stack d root (λ i h. omega (arith, W.deep i (omega arith))),
                small,
              );
        }

  -- ---- an operand goes first

  module _ (m : ℕ) (o : Opens ws class number L n m) where
    stack' : List ℕ
    stack' = set stack (suc d) m

    at_top : get_or stack' (suc d) 0 ≡ m
    unfolding stack'
    at_top = get_or-set_same stack (suc d) m 0 (omega (arith, W.stack_long, n-le, o.less, small))

    at_i : (i : ℕ) → i < suc d → get_or stack' i 0 ≡ get_or stack i 0
    unfolding stack'
    at_i i h = get_or-set_other stack (suc d) i m 0 (omega arith)

    pub pushed : Stepped ws class root number stack (suc d) number order k (set stack (suc d) m) (suc d + 1)
    unfolding stack' pending
    pushed =
        let e : suc d + 1 ≡ suc (suc d) = omega arith in
        let below : (i : ℕ) → i < suc d + 1 → (i ≡ suc d → ⊥) → i < suc d = λ i h f. omega arith in
        record {
          walking = record {
            number_long = W.number_long;
            order_long = W.order_long;
            stack_long = simp length-set W.stack_long;
            few = W.few;
            done = W.done;
            node = W.node;
            deep = by_last (λ i. get_or stack' i 0 + i ≤ root) (suc d) (rw at_top (omega (arith, n-le, o.less))) (λ i h. rw (at_i i h) (W.deep i h));
            falling = λ i j h g.
                by_last (λ j. (i : ℕ) → i < j → get_or stack' j 0 < get_or stack' i 0) (suc d)
                (λ i h. rw (at_top, at_i i h) (by_last (λ i. m < get_or stack i 0) d o.less (λ i g. omega (arith, o.less, W.falling i d g (omega arith))) i (omega arith)))
                (λ j g i h. rw (at_i j g, at_i i (omega arith)) (W.falling i j h g))
                j g i h;
            waits = by_last (λ i. (get_or class (get_or stack' i 0) 0 ≡ get_or stack' i 0) × (get_or number (get_or stack' i 0) 0 ≡ 65535)) (suc d) (rw at_top (o.own, o.unset))
                (λ i h. rw (at_i i h) (W.waits i h));
            left =
                rw e
                (ap (λ (x : ℕ). pending ws stack' (suc d) (visit L (unfold_at ws x))) at_top
                ∙ ap (λ (x : ℕ). pending ws stack' d (visit (visit L (unfold_at ws m)) (unfold_at ws x))) (at_i d (omega arith))
                ∙ ap (pending ws stack' d) o.visited
                ∙ pending-same ws stack' stack d (visit L (unfold_at ws n)) (λ i h. at_i i (omega arith))
                ∙ W.left);
          };
          less = rw (e, at_top) (omega (arith, o.less));
        }

-- ---- a turn at any depth

module _ (ws class : List ℕ) (root : ℕ) (C : Classes ws (root + 1) class) (small : root < 65535) (v : Valid ws (root + 1)) (words : (i : ℕ) → get_or ws i 0 < 18446744073709551616)
    (number order : List ℕ) (k : ℕ) (stack : List ℕ) (depth : ℕ) (h : 0 < depth) (W : Walking ws class root number order k stack depth) where
  same : depth ≡ suc (depth - 1)
  same = omega arith

  W' : Walking ws class root number order k stack (suc (depth - 1))
  W' = subst (λ (x : ℕ). Walking ws class root number order k stack x) same W

  pub top-le-root : get_or stack (depth - 1) 0 + (depth - 1) ≤ root
  top-le-root = W.deep (depth - 1) (omega arith)

  at-top-read : NodeRead ws (get_or stack (depth - 1) 0)
  at-top-read = node-read ws (root + 1) v words (get_or stack (depth - 1) 0) (omega (arith, top-le-root))

  turned-top : Turned ws class number (listed ws order k) (get_or stack (depth - 1) 0) (next_open ws class number (get_or stack (depth - 1) 0))
  turned-top =
      turned ws class number root C (listed ws order k) (λ m g s. (W.done m g s).beneath) (get_or stack (depth - 1) 0) (omega (arith, top-le-root)) at-top-read

  abbrev Next : (number order : List ℕ) (k : ℕ) (stack : List ℕ) (d : ℕ) → Type 0
  Next number₂ order₂ k₂ stack₂ d₂ = Stepped ws class root number stack depth number₂ order₂ k₂ stack₂ d₂

  from_suc : (number₂ order₂ : List ℕ) (k₂ : ℕ) (stack₂ : List ℕ) (d₂ : ℕ) → Stepped ws class root number stack (suc (depth - 1)) number₂ order₂ k₂ stack₂ d₂
      → Next number₂ order₂ k₂ stack₂ d₂
  from_suc number₂ order₂ k₂ stack₂ d₂ q = subst (λ (x : ℕ). Stepped ws class root number stack x number₂ order₂ k₂ stack₂ d₂) (sym same) q

  pub turn-done : (n m : ℕ) → n ≡ get_or stack (depth - 1) 0 → m ≡ next_open ws class number n → m ≡ 65535 → Next (set number n k) (set order k n) (k + 1) stack (depth - 1)
  turn-done n m en em e =
      let f : next_open ws class number (get_or stack (depth - 1) 0) ≡ 65535 = ap (next_open ws class number) (sym en) ∙ sym em ∙ e in
      rw en
      (⊎_elim
      (λ q. from_suc _ _ _ _ _ (finished ws class root C small number order k stack (depth - 1) W' q.0 at-top-read))
      (λ o. absurd (omega (arith, o.less, f, top-le-root, small)))
      turned-top)

  pub turn-less : (n m : ℕ) → n ≡ get_or stack (depth - 1) 0 → m ≡ next_open ws class number n → (m ≡ 65535 → ⊥) → m < 65535
  turn-less n m en em e =
      let f : m ≡ next_open ws class number (get_or stack (depth - 1) 0) = em ∙ ap (next_open ws class number) en in
      ⊎_elim (λ q. absurd (e (f ∙ q.1))) (λ o. omega (arith, o.less, f, top-le-root, small)) turned-top

  pub turn_more : (n m : ℕ) → n ≡ get_or stack (depth - 1) 0 → m ≡ next_open ws class number n → (m ≡ 65535 → ⊥) → Next number order k (set stack (depth - 1 + 1) m) (depth - 1 + 2)
  turn_more n m en em e =
      let f : m ≡ next_open ws class number (get_or stack (depth - 1) 0) = em ∙ ap (next_open ws class number) en in
      let e1 : depth - 1 + 1 ≡ suc (depth - 1) = omega arith in
      let e2 : depth - 1 + 2 ≡ suc (depth - 1) + 1 = omega arith in
      rw (e1, e2)
      (⊎_elim (λ q. absurd (e (f ∙ q.1)))
      (λ o. from_suc _ _ _ _ _ (pushed ws class root C small number order k stack (depth - 1) W' m (subst (Opens ws class number (listed ws order k) (get_or stack (depth - 1) 0)) (sym f) o)))
      turned-top)
