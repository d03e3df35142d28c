-- One node more has its class. Assumes nothing.
use mathlib.Core.Path.{◌≡◌, refl, sym, ap, ◌∙◌, subst}
use mathlib.Core.Bool.{Bool, true, false}
use mathlib.Core.List.{List}
use Prim.Native.Nat.{ℕ, zero, suc, ◌+◌, ◌*◌, ◌≤◌, ◌<◌}
use native.Mathlib.Omega.{arith}
use native.Mathlib.Numerals.{add-one}
use lib.Dec.{ltb, eqb}
use lib.ListN.{length, get_or, set, length-set}
use lib.Seq.{get_or-set_same, get_or-set_other}
use borrow.Author.Tests.{ltb-true, ltb-false, eqb-true, eqb-false}
use Rattle.pool.specs.Node.{cell_at, kind_number}
use Rattle.pool.specs.Rules.{Valid, ok_pool, ok_node}
use Rattle.facts.proofs.Tests.{and_both}
use Rattle.pool.specs.Unfold.{unfold_at}
use Rattle.canonical_classes.specs.declared.Key.{Key}
use Rattle.canonical_classes.specs.declared.Place.{Place}
use Rattle.pool_operands.specs.Operands.{has_a, has_b, has_c}
use Rattle.canonical_classes.specs.Key.{class_if, key_of, bucket_of, under}
use Rattle.canonical_classes.specs.Class.{Classes, Empty, On, Reached, Once, Low, Holds, Found, Long, Kept}
use Rattle.canonical_classes.proofs.Search.{on-holds, comes-holds}
use Rattle.canonical_classes.proofs.Keys.{node-read, key-tree, tree-key}

pub kept-first : (ws class slots : List ℕ) → Long class → length slots ≡ 262144 → Empty slots → Kept ws 0 class slots
kept-first ws class slots lc ls e =
    record {
      class_long = lc;
      slots_long = ls;
      classes = record { first = λ m h. absurd (omega arith); tree = λ m h. absurd (omega arith); one = λ m p h. absurd (omega arith) };
      low = λ s. omega (arith, e s);
      rises = λ m w l h. absurd (omega (arith, h, e (under m w)));
      once = λ s t m h. absurd (omega (arith, h, e s));
      own = λ s m h. absurd (omega (arith, h, e s));
      ways = λ m h. absurd (omega arith);
    }

-- what holds of n, and of each number below, holds below n + 1
pub by_last : (P : ℕ → Type 0) (n : ℕ) → P n → ((m : ℕ) → m < n → P m) → (m : ℕ) → m < n + 1 → P m
by_last P n p f m h = go (ltb m n) refl
  where
    go : (t : Bool) → ltb m n ≡ t → P m
    go true e = f m (ltb-true m n e)
    go false e = let g : n ≤ m = ltb-false m n e in subst P (omega arith) p

if-same : (b : Bool) (c d : List ℕ) (p : ℕ) → (b ≡ true → get_or c p 0 ≡ get_or d p 0) → class_if b c p ≡ class_if b d p
if-same true c d p h = h refl
if-same false c d p h = refl

-- what holds of the element that is set, and of the old one, holds of each
by-test : (P : ℕ → Type 0) (c b : ℕ) (l : List ℕ) (x : ℕ) → b < length l → (c ≡ b → P x) → P (get_or l c 0) → P (get_or (set l b x) c 0)
by-test P c b l x h f g = go (eqb c b) refl
  where
    go : (t : Bool) → eqb c b ≡ t → P (get_or (set l b x) c 0)
    go true e = let q = eqb-true c b e in subst P (sym (ap (λ (i : ℕ). get_or (set l b x) i 0) q ∙ get_or-set_same l b x 0 h)) (f q)
    go false e = subst P (sym (get_or-set_other l b c x 0 (eqb-false c b e))) g

-- a link to a node that had none
once-set : (slots : List ℕ) (t n : ℕ) → t < length slots → Low slots n → Once slots → Once (set slots t (n + 1))
once-set slots t n room low once s u m =
    let new = set slots t (n + 1) in
    by-test (λ x. x ≡ suc m → get_or new u 0 ≡ suc m → s ≡ u) s t slots (n + 1) room
    (λ e d. by-test (λ x. x ≡ suc m → s ≡ u) u t slots (n + 1) room (λ f g. e ∙ sym f) (λ f. absurd (omega (arith, f, d, low u))))
    (λ d. by-test (λ x. x ≡ suc m → s ≡ u) u t slots (n + 1) room (λ f g. absurd (omega (arith, g, d, low s))) (once s u m d))

module _ (ws : List ℕ) (count : ℕ) (v : Valid ws count) (words : (i : ℕ) → get_or ws i 0 < 18446744073709551616) (count≤ : count ≤ 65535) where
  module _ (n : ℕ) (here : n < count) (class slots : List ℕ) (K : Kept ws n class slots) where
    -- what is at n does not matter to the keys up to n
    key-stays : (x m : ℕ) → m ≤ n → key_of ws (set class n x) m ≡ key_of ws class m
    unfolding key_of
    key-stays x m h =
        let r = node-read ws count v words m (omega arith) in
        let k = cell_at ws m in
        let fa = if-same (has_a (kind_number ws m)) (set class n x) class k.a
        (λ e. let l : k.a < m = r.less.a-less (rw r.code at e) in get_or-set_other class n k.a x 0 (omega arith)) in
        let fb = if-same (has_b (kind_number ws m)) (set class n x) class k.b
        (λ e. let l : k.b < m = r.less.b-less (rw r.code at e) in get_or-set_other class n k.b x 0 (omega arith)) in
        let fc = if-same (has_c (kind_number ws m)) (set class n x) class k.c
        (λ e. let l : k.c < m = r.less.c-less (rw r.code at e) in get_or-set_other class n k.c x 0 (omega arith)) in
        λ i. record { word = get_or ws (4 * m) 0; a = record { 0 = fa i }; b = record { 0 = fb i }; c = record { 0 = fc i }; x = k.x; y = k.y }

    at_n : (x : ℕ) → get_or (set class n x) n 0 ≡ x
    at_n x = get_or-set_same class n x 0 (omega (arith, K.class_long))

    at-m : (x m : ℕ) → m < n → get_or (set class n x) m 0 ≡ get_or class m 0
    at-m x m h = get_or-set_other class n m x 0 (omega arith)

    -- classes after node n has got one, q, of the same tree
    classes-more : (q : ℕ) → q ≤ n → (q < n → get_or class q 0 ≡ q) → unfold_at ws q ≡ unfold_at ws n
        → ((p : ℕ) → p < n → unfold_at ws p ≡ unfold_at ws n → get_or class p 0 ≡ q)
        → Classes ws (n + 1) (set class n q)
    classes-more q le own same one =
        let c = set class n q in
        record {
          first = by_last (λ m. get_or c m 0 ≤ m) n (rw (at_n q) le) (λ m l. rw (at-m q m l) (K.classes.first m l));
          tree = by_last (λ m. unfold_at ws (get_or c m 0) ≡ unfold_at ws m) n (rw (at_n q) same) (λ m l. rw (at-m q m l) (K.classes.tree m l));
          one = λ m p h g.
              by_last (λ m. (p : ℕ) → p < n + 1 → unfold_at ws m ≡ unfold_at ws p → get_or c m 0 ≡ get_or c p 0) n
              (by_last (λ p. unfold_at ws n ≡ unfold_at ws p → get_or c n 0 ≡ get_or c p 0) n (λ e. refl) (λ p l e. rw (at_n q, at-m q p l) (sym (one p l (sym e)))))
              (λ m k.
              by_last (λ p. unfold_at ws m ≡ unfold_at ws p → get_or c m 0 ≡ get_or c p 0) n (λ e. rw (at_n q, at-m q m k) (one m k e))
              (λ p l e. rw (at-m q m k, at-m q p l) (K.classes.one m p k l e)))
              m h p g;
        }

    -- the first node of a class is its own class
    own-class : (p : ℕ) → p < n → get_or class (get_or class p 0) 0 ≡ get_or class p 0
    own-class p h = K.classes.one (get_or class p 0) p (omega (arith, K.classes.first p h)) h (K.classes.tree p h)

    -- a tree that is known
    pub kept-old : (q : ℕ) → q < n → key_of ws class q ≡ key_of ws class n → Kept ws (n + 1) (set class n (get_or class q 0)) slots
    kept-old q h e =
        let c = get_or class q 0 in
        let le : c ≤ q = K.classes.first q h in
        let same : unfold_at ws q ≡ unfold_at ws n = key-tree ws count v words n class K.classes q n (omega arith) here (omega arith) (omega arith) e in
        record {
          class_long = simp length-set K.class_long;
          slots_long = K.slots_long;
          classes = classes-more c (omega arith) (λ g. own-class q h) (K.classes.tree q h ∙ same)
              (λ p g f. K.classes.one p q g h (f ∙ sym same));
          low = λ s. omega (arith, K.low s);
          rises = K.rises;
          once = K.once;
          own = λ s m f.
              subst (λ (k : Key). Reached slots k s) (sym (key-stays c m (omega (arith, f, K.low s)))) (K.own s m f);
          ways = by_last (λ m. get_or (set class n c) m 0 ≡ m → let k = key_of ws (set class n c) m in On slots k (bucket_of k) 0 m) n
              (λ f. absurd (omega (arith, f, at_n c)))
              (λ m l f. rw (key-stays c m (omega arith)) (K.ways m l (sym (at-m c m l) ∙ f)));
        }

    -- a tree that is new: a link to n in the slot that the search ended at
    pub kept_new : (r : Place) → r.link ≡ 0 → Found ws class slots n r → Kept ws (n + 1) (set class n n) (set slots r.slot (n + 1))
    kept_new r z F =
        let t = r.slot in
        let slots' = set slots t (n + 1) in
        let room : t < length slots = omega (arith, K.slots_long, F.slot_less) in
        let holds : Holds slots slots' = λ s m e.
        by-test (λ x. x ≡ suc m) s t slots (n + 1) room (λ q. absurd (omega (arith, e, F.free z, ap (λ (i : ℕ). get_or slots i 0) q))) e in
        let fresh : (p : ℕ) → p < n → unfold_at ws p ≡ unfold_at ws n → ⊥ = λ p l e.
        let q = get_or class p 0 in
        let lq : q ≤ p = K.classes.first p l in
        let kq : key_of ws class q ≡ key_of ws class n =
        tree-key ws count v words n class K.classes q n (omega arith) here (omega arith) (omega arith) (K.classes.tree p l ∙ e) in
        F.missed z q (rw (← kq) (K.ways q (omega arith) (own-class p l))) kq in
        let comes : (s m : ℕ) → m ≤ n → Reached slots (key_of ws class m) s → Reached slots' (key_of ws (set class n n) m) s = λ s m l r.
        rw (key-stays n m l) (r.0, comes-holds slots slots' (key_of ws class m) holds r.1) in
        record {
          class_long = simp length-set K.class_long;
          slots_long = simp length-set K.slots_long;
          classes = classes-more n (omega arith) (λ g. absurd (omega arith)) refl (λ p g f. absurd (fresh p g f));
          low = λ s. by-test (λ x. x ≤ n + 1) s t slots (n + 1) room (λ e. omega arith) (omega (arith, K.low s));
          rises = λ m w l.
              by-test (λ x. 0 < x → m + 1 < x) (under m w) t slots (n + 1) room (λ e h. omega (arith, e, F.slot_less)) (K.rises m w l);
          once = once-set slots t n room K.low K.once;
          own = λ s m.
              by-test (λ x. x ≡ suc m → Reached slots' (key_of ws (set class n n) m) s) s t slots (n + 1) room
              (λ e d. let q : m ≡ n = omega (arith, d) in rw (e, q) (comes t n (omega arith) (F.comes z))) (λ d. comes s m (omega (arith, d, K.low s)) (K.own s m d));
          ways = by_last (λ m. get_or (set class n n) m 0 ≡ m → let k = key_of ws (set class n n) m in On slots' k (bucket_of k) 0 m) n
              (λ f. rw (key-stays n n (omega arith)) (F.leads z slots' holds (get_or-set_same slots t (n + 1) 0 room ∙ add-one n)))
              (λ m l f. rw (key-stays n m (omega arith)) (on-holds slots slots' (key_of ws class m) holds (K.ways m l (sym (at-m n m l) ∙ f))));
        }

pub valid-le : (ws : List ℕ) (n k : ℕ) → n ≤ k → Valid ws k → Valid ws n
unfolding ok_pool
valid-le ws n zero h v = let e : n ≡ 0 = omega arith in rw e v
valid-le ws n (suc k) h v = go (λ l. valid-le ws n k l (and_both (ok_pool ws k) (ok_node ws k) v).0) (ltb n (suc k)) refl
  where
    go : (n ≤ k → Valid ws n) → (t : Bool) → ltb n (suc k) ≡ t → Valid ws n
    go f true e = f (omega (arith, ltb-true n (suc k) e))
    go f false e = let g : suc k ≤ n = ltb-false n (suc k) e in let e : n ≡ suc k = omega arith in rw e v
