-- The key of a node and its tree: over classes of the nodes before, equal keys are equal trees. Assumes nothing.
use mathlib.Core.Path.{◌≡◌, refl, sym, ap, ◌∙◌, subst}
use mathlib.Core.Bool.{Bool, true, false, ◌&&◌, false≢true}
use mathlib.Core.List.{List, []}
use mathlib.Core.Logic.{⊎_elim}
use Prim.Native.Nat.{ℕ, ◌+◌, ◌*◌, ◌≤◌, ◌<◌}
use native.Mathlib.Omega.{arith}
use lib.Dec.{ltb, leb, eqb}
use lib.ListN.{get_or}
use borrow.Author.Tests.{lt-ltb, eqb-true}
use Rattle.facts.proofs.Tests.{and_both}
use Rattle.terms.specs.Expr.{Expr, width}
use Rattle.terms.specs.Registers.{registers}
use Rattle.pool.specs.Node.{Kind, bad, var, const, bv, compare, ite, extract, concat, zext, sext, kind_at, code_of, Cell, cell_at, width_at, set_at, kind_word, kind_number}
use Rattle.pool.specs.Rules.{wide_is_ok, ok_kind, width_before, Valid}
use Rattle.pool.specs.Unfold.{shape_of, unfold_at}
use Rattle.pool.proofs.Facts.{kind-code, valid-node}
use Rattle.pool.proofs.Laws.{unfold-step}
use Rattle.pool_check.proofs.Sound.{sound}
use Rattle.canonical.specs.Order.{parts}
use Rattle.canonical.specs.Words.{cell_in}
use Rattle.canonical.proofs.Trees.{at}
use Rattle.canonical.proofs.Words.{word-parts}
use Rattle.pool_registers.proofs.Walk.{walk_is}
use Rattle.pool_operands.specs.Operands.{has_a, has_b, has_c}
use Rattle.pool_operands.proofs.ByKind.{bv-c, cmp-c, no, Earlier, earlier-by, shape-by}
use Rattle.canonical_classes.specs.declared.Key.{Key}
use Rattle.canonical_classes.specs.Key.{class_if, key_of}
use Rattle.canonical_classes.specs.Class.{Classes}

-- ---- by kind

-- the term t has the parts A, B and C that a kind has
pub record PartsAre (κ : Kind) (t A B C : Expr) : Type 0 where
  pub a-is : has_a (code_of κ) ≡ true → at (parts t) 0 ≡ A
  pub b-is : has_b (code_of κ) ≡ true → at (parts t) 1 ≡ B
  pub c-is : has_c (code_of κ) ≡ true → at (parts t) 2 ≡ C

pick2 : (p x y g i : Bool) → (p && x && y && g && i) ≡ true → (x ≡ true) × (y ≡ true)
pick2 p x y g i h =
    let q = and_both (p && x) y (and_both (p && x && y) g (and_both (p && x && y && g) i h).0).0 in
    ((and_both p x q.0).1, q.1)

pick3 : (p x y g i j : Bool) → (p && x && y && g && i && j) ≡ true → (x ≡ true) × (y ≡ true)
pick3 p x y g i j h = pick2 p x y g i (and_both (p && x && y && g && i) j h).0

module _ (n : ℕ) (k : Cell) (A B C : ℕ) where
  -- the data of a node is the data of its term
  data-by : (κ : Kind) → ok_kind κ n k A B C ≡ true → k.x < 18446744073709551616 → (s t u : Expr)
      → (k.x ≡ (cell_in [] (shape_of κ k s t u)).x) × (k.y ≡ (cell_in [] (shape_of κ k s t u)).y)
  data-by bad h f s t u = absurd (false≢true h)
  data-by var h f s t u = (refl, eqb-true k.y 0 (and_both (eqb k.width 128 && eqb k.a 0 && eqb k.b 0 && eqb k.c 0 && ltb k.x 32) (eqb k.y 0) h).1)
  data-by const h f s t u = (omega arith, omega arith)
  data-by (bv o) h f s t u =
      let q = pick2 (wide_is_ok k.width && ltb k.a n && ltb k.b n && eqb k.c 0) (eqb k.x 0) (eqb k.y 0) (eqb A k.width) (eqb B k.width) h in
      (eqb-true k.x 0 q.0, eqb-true k.y 0 q.1)
  data-by (compare o) h f s t u =
      let q = pick2 (eqb k.width 0 && ltb k.a n && ltb k.b n && eqb k.c 0) (eqb k.x 0) (eqb k.y 0) (leb 1 A) (eqb B A) h in
      (eqb-true k.x 0 q.0, eqb-true k.y 0 q.1)
  data-by ite h f s t u =
      let q = pick3 (wide_is_ok k.width && ltb k.a n && ltb k.b n && ltb k.c n) (eqb k.x 0) (eqb k.y 0) (eqb A 0) (eqb B k.width) (eqb C k.width) h in
      (eqb-true k.x 0 q.0, eqb-true k.y 0 q.1)
  data-by extract h f s t u = (refl, refl)
  data-by concat h f s t u =
      let q = pick3 (wide_is_ok k.width && ltb k.a n && ltb k.b n && eqb k.c 0) (eqb k.x 0) (eqb k.y 0) (leb 1 A) (leb 1 B) (eqb k.width (A + B)) h in
      (eqb-true k.x 0 q.0, eqb-true k.y 0 q.1)
  data-by zext h f s t u =
      let q = pick2 (wide_is_ok k.width && ltb k.a n && eqb k.b 0 && eqb k.c 0) (eqb k.x 0) (eqb k.y 0) (leb 1 A) (leb A k.width) h in
      (eqb-true k.x 0 q.0, eqb-true k.y 0 q.1)
  data-by sext h f s t u =
      let q = pick2 (wide_is_ok k.width && ltb k.a n && eqb k.b 0 && eqb k.c 0) (eqb k.x 0) (eqb k.y 0) (leb 1 A) (leb A k.width) h in
      (eqb-true k.x 0 q.0, eqb-true k.y 0 q.1)

  kind-by : (κ : Kind) → ok_kind κ n k A B C ≡ true → (s t u : Expr) → κ ≡ (cell_in [] (shape_of κ k s t u)).kind
  kind-by bad h s t u = absurd (false≢true h)
  kind-by var h s t u = refl
  kind-by const h s t u = refl
  kind-by (bv o) h s t u = refl
  kind-by (compare o) h s t u = refl
  kind-by ite h s t u = refl
  kind-by extract h s t u = refl
  kind-by concat h s t u = refl
  kind-by zext h s t u = refl
  kind-by sext h s t u = refl

parts-by : (κ : Kind) (k : Cell) (A B C : Expr) → PartsAre κ (shape_of κ k A B C) A B C
parts-by bad k A B C = record { a-is = no refl; b-is = no refl; c-is = no refl }
parts-by var k A B C = record { a-is = no refl; b-is = no refl; c-is = no refl }
parts-by const k A B C = record { a-is = no refl; b-is = no refl; c-is = no refl }
parts-by (bv o) k A B C = record { a-is = λ e. refl; b-is = λ e. refl; c-is = no (bv-c o) }
parts-by (compare o) k A B C = record { a-is = λ e. refl; b-is = λ e. refl; c-is = no (cmp-c o) }
parts-by ite k A B C = record { a-is = λ e. refl; b-is = λ e. refl; c-is = λ e. refl }
parts-by extract k A B C = record { a-is = λ e. refl; b-is = no refl; c-is = no refl }
parts-by concat k A B C = record { a-is = λ e. refl; b-is = λ e. refl; c-is = no refl }
parts-by zext k A B C = record { a-is = λ e. refl; b-is = no refl; c-is = no refl }
parts-by sext k A B C = record { a-is = λ e. refl; b-is = no refl; c-is = no refl }

-- ---- a node of a valid pool

abbrev pub kind_in : List ℕ → ℕ → Kind
kind_in ws n = kind_at (kind_number ws n)

pub record NodeRead (ws : List ℕ) (n : ℕ) : Type 0 where
  pub code : kind_number ws n ≡ code_of (kind_in ws n)
  pub tree : unfold_at ws n ≡ shape_of (kind_in ws n) (cell_at ws n) (unfold_at ws (cell_at ws n).a) (unfold_at ws (cell_at ws n).b) (unfold_at ws (cell_at ws n).c)
  pub less : Earlier (kind_in ws n) n (cell_at ws n)
  pub kind-is : kind_in ws n ≡ (cell_in [] (unfold_at ws n)).kind
  pub x-is : (cell_at ws n).x ≡ (cell_in [] (unfold_at ws n)).x
  pub y-is : (cell_at ws n).y ≡ (cell_in [] (unfold_at ws n)).y
  pub wide_is : width (unfold_at ws n) ≡ width_at ws n
  pub set_is : set_at ws n ≡ registers (unfold_at ws n)

module _ (ws : List ℕ) (count : ℕ) (v : Valid ws count) (words : (i : ℕ) → get_or ws i 0 < 18446744073709551616) where
  pub node-read : (n : ℕ) → n < count → NodeRead ws n
  node-read n h =
      let k = cell_at ws n in
      let κ = k.kind in
      let ok = valid-node ws count n v h in
      let less = earlier-by n k _ _ _ κ ok in
      let tree : unfold_at ws n ≡ shape_of κ k (unfold_at ws k.a) (unfold_at ws k.b) (unfold_at ws k.c) =
      unfold-step ws n k refl
      ∙ shape-by κ k k _ _ _ _ _ _ refl refl refl (λ e. rw (lt-ltb k.a n (less.a-less e))) (λ e. rw (lt-ltb k.b n (less.b-less e)))
      (λ e. rw (lt-ltb k.c n (less.c-less e))) in
      let d = data-by n k _ _ _ κ ok (words (4 * n + 2)) (unfold_at ws k.a) (unfold_at ws k.b) (unfold_at ws k.c) in
      record {
        code =
            ⊎_elim (λ e. absurd (false≢true (subst (λ (κ : Kind). ok_kind κ n k (width_before ws n k.a) (width_before ws n k.b) (width_before ws n k.c) ≡ true) e ok))) (λ e. sym e)
            (kind-code (kind_number ws n));
        tree = tree;
        less = less;
        kind-is = kind-by n k _ _ _ κ ok (unfold_at ws k.a) (unfold_at ws k.b) (unfold_at ws k.c) ∙ ap (λ (t : Expr). (cell_in [] t).kind) (sym tree);
        x-is = d.0 ∙ ap (λ (t : Expr). (cell_in [] t).x) (sym tree);
        y-is = d.1 ∙ ap (λ (t : Expr). (cell_in [] t).y) (sym tree);
        wide_is = (sound ws count v n h).wide;
        set_is = walk_is ws count v n h;
      }

  -- ---- keys over the classes of the nodes before N

  module _ (N : ℕ) (class : List ℕ) (C : Classes ws N class) where
    -- an operand's class goes by its tree
    class-tree : (p q : ℕ) → p < N → q < N → get_or class p 0 ≡ get_or class q 0 → unfold_at ws p ≡ unfold_at ws q
    class-tree p q f g e = sym (C.tree p f) ∙ ap (unfold_at ws) e ∙ C.tree q g

    if-both : (b : Bool) (p q : ℕ) → class_if b class p ≡ class_if b class q → b ≡ true → get_or class p 0 ≡ get_or class q 0
    if-both true p q e h = e
    if-both false p q e h = absurd (false≢true h)

    both_if : (b : Bool) (p q : ℕ) → (b ≡ true → get_or class p 0 ≡ get_or class q 0) → class_if b class p ≡ class_if b class q
    both_if true p q e = e refl
    both_if false p q e = refl

    -- m and n may have operands below N only
    pub key-tree : (m n : ℕ) → m < count → n < count → m ≤ N → n ≤ N → key_of ws class m ≡ key_of ws class n → unfold_at ws m ≡ unfold_at ws n
    unfolding key_of
    key-tree m n hm hn lm ln e =
        let rm = node-read m hm in
        let rn = node-read n hn in
        let k = cell_at ws m in
        let l = cell_at ws n in
        let w : get_or ws (4 * m) 0 ≡ get_or ws (4 * n) 0 = ap (λ (k : Key). k.word) e in
        let kn : kind_number ws m ≡ kind_number ws n = rw w in
        let κ : kind_in ws m ≡ kind_in ws n = ap kind_at kn in
        let ea : class_if (has_a (kind_number ws m)) class k.a ≡ class_if (has_a (kind_number ws n)) class l.a = ap (λ (k : Key). k.a.0) e in
        let eb : class_if (has_b (kind_number ws m)) class k.b ≡ class_if (has_b (kind_number ws n)) class l.b = ap (λ (k : Key). k.b.0) e in
        let ec : class_if (has_c (kind_number ws m)) class k.c ≡ class_if (has_c (kind_number ws n)) class l.c = ap (λ (k : Key). k.c.0) e in
        let less : Earlier (kind_in ws n) m k = subst (λ (κ : Kind). Earlier κ m k) κ rm.less in
        let oa : (h : has_a (code_of (kind_in ws n)) ≡ true) → unfold_at ws k.a ≡ unfold_at ws l.a = λ h.
        let am : k.a < m = less.a-less h in
        let an : l.a < n = rn.less.a-less h in
        class-tree k.a l.a (omega arith) (omega arith) (if-both (has_a (kind_number ws n)) k.a l.a (rw kn at ea) (rw rn.code h)) in
        let ob : (h : has_b (code_of (kind_in ws n)) ≡ true) → unfold_at ws k.b ≡ unfold_at ws l.b = λ h.
        let am : k.b < m = less.b-less h in
        let an : l.b < n = rn.less.b-less h in
        class-tree k.b l.b (omega arith) (omega arith) (if-both (has_b (kind_number ws n)) k.b l.b (rw kn at eb) (rw rn.code h)) in
        let oc : (h : has_c (code_of (kind_in ws n)) ≡ true) → unfold_at ws k.c ≡ unfold_at ws l.c = λ h.
        let am : k.c < m = less.c-less h in
        let an : l.c < n = rn.less.c-less h in
        class-tree k.c l.c (omega arith) (omega arith) (if-both (has_c (kind_number ws n)) k.c l.c (rw kn at ec) (rw rn.code h)) in
        let ww : k.width ≡ l.width = rw w in
        let xx : k.x ≡ l.x = ap (λ (k : Key). k.x) e in
        let yy : k.y ≡ l.y = ap (λ (k : Key). k.y) e in
        rm.tree ∙ ap (λ (κ : Kind). shape_of κ k (unfold_at ws k.a) (unfold_at ws k.b) (unfold_at ws k.c)) κ
        ∙ shape-by (kind_in ws n) k l _ _ _ _ _ _ ww xx yy oa ob oc
        ∙ sym rn.tree

    pub tree-key : (m n : ℕ) → m < count → n < count → m ≤ N → n ≤ N → unfold_at ws m ≡ unfold_at ws n → key_of ws class m ≡ key_of ws class n
    unfolding key_of
    tree-key m n hm hn lm ln e =
        let rm = node-read m hm in
        let rn = node-read n hn in
        let k = cell_at ws m in
        let l = cell_at ws n in
        let κ : kind_in ws m ≡ kind_in ws n = rm.kind-is ∙ ap (λ (t : Expr). (cell_in [] t).kind) e ∙ sym rn.kind-is in
        let kn : kind_number ws m ≡ kind_number ws n = rm.code ∙ ap code_of κ ∙ sym rn.code in
        let wn : width_at ws m ≡ width_at ws n = sym rm.wide_is ∙ ap width e ∙ rn.wide_is in
        let sn : set_at ws m ≡ set_at ws n = rm.set_is ∙ ap registers e ∙ sym rn.set_is in
        let w : get_or ws (4 * m) 0 ≡ get_or ws (4 * n) 0 = word-parts (get_or ws (4 * m) 0) ∙ (λ i. kind_word (kn i) (wn i) (sn i)) ∙ sym (word-parts (get_or ws (4 * n) 0)) in
        let less : Earlier (kind_in ws n) m k = subst (λ (κ : Kind). Earlier κ m k) κ rm.less in
        let pm : PartsAre (kind_in ws n) (unfold_at ws m) (unfold_at ws k.a) (unfold_at ws k.b) (unfold_at ws k.c) =
        subst (λ (κ : Kind). PartsAre κ (unfold_at ws m) (unfold_at ws k.a) (unfold_at ws k.b) (unfold_at ws k.c)) κ
        (rw rm.tree (parts-by (kind_in ws m) k (unfold_at ws k.a) (unfold_at ws k.b) (unfold_at ws k.c))) in
        let pn : PartsAre (kind_in ws n) (unfold_at ws n) (unfold_at ws l.a) (unfold_at ws l.b) (unfold_at ws l.c) =
        rw rn.tree (parts-by (kind_in ws n) l (unfold_at ws l.a) (unfold_at ws l.b) (unfold_at ws l.c)) in
        let fa : class_if (has_a (kind_number ws m)) class k.a ≡ class_if (has_a (kind_number ws n)) class l.a =
        rw kn
        (both_if (has_a (kind_number ws n)) k.a l.a
        (λ h.
        let g : has_a (code_of (kind_in ws n)) ≡ true = rw rn.code at h in
        let am : k.a < m = less.a-less g in
        let an : l.a < n = rn.less.a-less g in
        C.one k.a l.a (omega arith) (omega arith) (sym (pm.a-is g) ∙ ap (λ (t : Expr). at (parts t) 0) e ∙ pn.a-is g))) in
        let fb : class_if (has_b (kind_number ws m)) class k.b ≡ class_if (has_b (kind_number ws n)) class l.b =
        rw kn
        (both_if (has_b (kind_number ws n)) k.b l.b
        (λ h.
        let g : has_b (code_of (kind_in ws n)) ≡ true = rw rn.code at h in
        let am : k.b < m = less.b-less g in
        let an : l.b < n = rn.less.b-less g in
        C.one k.b l.b (omega arith) (omega arith) (sym (pm.b-is g) ∙ ap (λ (t : Expr). at (parts t) 1) e ∙ pn.b-is g))) in
        let fc : class_if (has_c (kind_number ws m)) class k.c ≡ class_if (has_c (kind_number ws n)) class l.c =
        rw kn
        (both_if (has_c (kind_number ws n)) k.c l.c
        (λ h.
        let g : has_c (code_of (kind_in ws n)) ≡ true = rw rn.code at h in
        let am : k.c < m = less.c-less g in
        let an : l.c < n = rn.less.c-less g in
        C.one k.c l.c (omega arith) (omega arith) (sym (pm.c-is g) ∙ ap (λ (t : Expr). at (parts t) 2) e ∙ pn.c-is g))) in
        let xx : k.x ≡ l.x = rm.x-is ∙ ap (λ (t : Expr). (cell_in [] t).x) e ∙ sym rn.x-is in
        let yy : k.y ≡ l.y = rm.y-is ∙ ap (λ (t : Expr). (cell_in [] t).y) e ∙ sym rn.y-is in
        λ i. record { word = w i; a = record { 0 = fa i }; b = record { 0 = fb i }; c = record { 0 = fc i }; x = xx i; y = yy i }
