-- Laws of a pool: what growth keeps, what four words written make, and the term of a node by those of its operands. Assumes nothing.
use Prim.Native.Nat.{ℕ, zero, suc, ◌+◌, ◌*◌, ◌/◌, ◌%◌, ◌≤◌, ◌<◌}
use mathlib.Core.Path.{◌≡◌, refl, sym, ap, ap₂, ◌∙◌, subst}
use mathlib.Core.Bool.{Bool, true, false, ◌&&◌}
use mathlib.Core.List.{List, [], ◌∷◌, Memᴰ}
use mathlib.Core.Logic.{⊎_elim, ◌⊎◌, inl, inr}
use native.Mathlib.Omega.{arith}
use native.Mathlib.Nat.{lt_of_lt_of_le, lt_of_le_of_lt, lt_trans, le_trans, le_of_lt, not-suc-le-zero, le_refl}
use native.Mathlib.Numerals.{add-one}
use lib.ListN.{length, get_or, set, length-set}
use lib.Seq.{get_or-set_same, get_or-set_other}
use lib.Dec.{ltb, eqb}
use borrow.Author.Tests.{ltb-true, eq-eqb}
use Rattle.facts.proofs.Numbers.{before-or-from}
use Rattle.terms.specs.Expr.{Expr}
use Rattle.pool.specs.Node.{Cell, kind_at, kind_word, operand_word, kind_of, decode, cell_at, width_at, set_of, set_at, write_node}
use Rattle.pool.specs.Rules.{if_earlier, width_before, set_before_block, set_rule, ok_cell, ok_pool, Valid}
use Rattle.pool.specs.Unfold.{shape, earlier, unfold_to, unfold_at}
use Rattle.pool.specs.Growth.{operands, Reach, AllReached, Grown, NodeIs, Pushed, Room, Sized, Made}

-- ---- growth

pub grown-refl : (ws : List ℕ) (k : ℕ) → Grown ws k ws k
grown-refl ws k = record { long = refl; more = le_refl k; below = λ i h. refl; above = λ i h. refl; plain = λ n f l h. absurd (omega arith) }

pub grown-trans : {a b c : List ℕ} {i j k : ℕ} → Grown a i b j → Grown b j c k → Grown a i c k
grown-trans {j = j} g h =
    record {
      long = h.long ∙ g.long;
      more = le_trans g.more h.more;
      below = λ n l. h.below n (omega (arith, g.more)) ∙ g.below n l;
      above = λ n l. h.above n l ∙ g.above n (omega (arith, h.more));
      plain = λ n f l m.
          ⊎_elim (λ p. subst (λ (w : ℕ). kind_of w ≡ 1 → ⊥) (sym (h.below (4 * n) (omega arith))) (g.plain n f l p)) (λ p. h.plain n f p m) (before-or-from n j);
    }

-- ---- a test that both sides pass or fail together

earlier-same : (m n : ℕ) (x y : Expr) → (m < n → x ≡ y) → earlier (ltb m n) x ≡ earlier (ltb m n) y
earlier-same m n x y h = go (ltb m n) refl
  where
    go : (t : Bool) → ltb m n ≡ t → earlier t x ≡ earlier t y
    go true e = h (ltb-true m n e)
    go false e = refl

if_earlier-same : (m n : ℕ) (x y : ℕ) → (m < n → x ≡ y) → if_earlier (ltb m n) x ≡ if_earlier (ltb m n) y
if_earlier-same m n x y h = go (ltb m n) refl
  where
    go : (t : Bool) → ltb m n ≡ t → if_earlier t x ≡ if_earlier t y
    go true e = h (ltb-true m n e)
    go false e = refl

-- ---- the term of a node goes by the node's cell and its operands' terms

shape_same : (k : Cell) {A A' B B' C C' : Expr} → A ≡ A' → B ≡ B' → C ≡ C' → shape k A B C ≡ shape k A' B' C'
shape_same k p q r = λ i. shape k (p i) (q i) (r i)

fuel : (ws : List ℕ) (f g n : ℕ) → n < f → n < g → unfold_to f ws n ≡ unfold_to g ws n
unfolding unfold_to
fuel ws zero g n h h' = absurd (not-suc-le-zero h)
fuel ws (suc f) zero n h h' = absurd (not-suc-le-zero h')
fuel ws (suc f) (suc g) n h h' =
    shape_same (cell_at ws n)
    (earlier-same _ n _ _ (λ l. fuel ws f g (cell_at ws n).a (omega arith) (omega arith)))
    (earlier-same _ n _ _ (λ l. fuel ws f g (cell_at ws n).b (omega arith) (omega arith)))
    (earlier-same _ n _ _ (λ l. fuel ws f g (cell_at ws n).c (omega arith) (omega arith)))

-- the term of a node by those of its operands
pub unfold-step : (ws : List ℕ) (n : ℕ) (k : Cell) → cell_at ws n ≡ k
    → unfold_at ws n ≡ shape k (earlier (ltb k.a n) (unfold_at ws k.a)) (earlier (ltb k.b n) (unfold_at ws k.b)) (earlier (ltb k.c n) (unfold_at ws k.c))
unfolding unfold_at unfold_to
unfold-step ws n k e =
    subst
    (λ (k : Cell).
    unfold_to (suc n) ws n ≡ shape k (earlier (ltb k.a n) (unfold_to (suc k.a) ws k.a)) (earlier (ltb k.b n) (unfold_to (suc k.b) ws k.b))
    (earlier (ltb k.c n) (unfold_to (suc k.c) ws k.c)))
    e
    (shape_same (cell_at ws n)
    (earlier-same _ n _ _ (λ l. fuel ws n (suc (cell_at ws n).a) (cell_at ws n).a l (omega arith)))
    (earlier-same _ n _ _ (λ l. fuel ws n (suc (cell_at ws n).b) (cell_at ws n).b l (omega arith)))
    (earlier-same _ n _ _ (λ l. fuel ws n (suc (cell_at ws n).c) (cell_at ws n).c l (omega arith))))

-- ---- reaching
pub reach-le : {ws : List ℕ} {r m : ℕ} → Reach ws r m → m ≤ r
reach-le Reach.here = le_refl _
reach-le (Reach.down h s o) = le_trans (le_of_lt s) (reach-le h)

pub reach-trans : {ws : List ℕ} {r p m : ℕ} → Reach ws r p → Reach ws p m → Reach ws r m
reach-trans h Reach.here = h
reach-trans h (Reach.down g s o) = Reach.down (reach-trans h g) s o

-- ---- what growth keeps
module _ {a b : List ℕ} {k k' : ℕ} (g : Grown a k b k') where
  pub cell-kept : (n : ℕ) → n < k → cell_at b n ≡ cell_at a n
  cell-kept n l = rw (g.below (4 * n) (omega arith), g.below (4 * n + 1) (omega arith), g.below (4 * n + 2) (omega arith), g.below (4 * n + 3) (omega arith))

  pub width-kept : (n : ℕ) → n < k → width_at b n ≡ width_at a n
  width-kept n l = rw (g.below (4 * n) (omega arith))

  pub set-kept : (n : ℕ) → n < k → set_at b n ≡ set_at a n
  set-kept n l = rw (g.below (4 * n) (omega arith))

  to-kept : (f n : ℕ) → n < k → unfold_to f b n ≡ unfold_to f a n
  unfolding unfold_to
  to-kept zero n l = refl
  to-kept (suc f) n l =
      subst
      (λ (c : Cell).
      shape c (earlier (ltb c.a n) (unfold_to f b c.a)) (earlier (ltb c.b n) (unfold_to f b c.b)) (earlier (ltb c.c n) (unfold_to f b c.c)) ≡ unfold_to (suc f) a n)
      (sym (cell-kept n l))
      (shape_same (cell_at a n)
      (earlier-same _ n _ _ (λ h. to-kept f (cell_at a n).a (lt_trans h l)))
      (earlier-same _ n _ _ (λ h. to-kept f (cell_at a n).b (lt_trans h l)))
      (earlier-same _ n _ _ (λ h. to-kept f (cell_at a n).c (lt_trans h l))))

  pub unfold-kept : (n : ℕ) → n < k → unfold_at b n ≡ unfold_at a n
  unfolding unfold_at
  unfold-kept n l = to-kept (suc n) n l

  pub is-kept : {n w : ℕ} {t : Expr} → NodeIs a k n w t → NodeIs b k' n w t
  is-kept {n} h =
      record
      { under = lt_of_lt_of_le h.under g.more; wide = width-kept n h.under ∙ h.wide; tree = unfold-kept n h.under ∙ h.tree }

  pub reach-kept : {r m : ℕ} → r < k → Reach a r m → Reach b r m
  reach-kept l Reach.here = Reach.here
  reach-kept l (Reach.down {p = p} {m = m} h s o) =
      Reach.down (reach-kept l h) s (subst (λ (c : Cell). Memᴰ m (operands c)) (sym (cell-kept p (lt_of_le_of_lt (reach-le h) l))) o)

  -- the widths that node n of a pool sees
  before-kept : (n m : ℕ) → n ≤ k → width_before b n m ≡ width_before a n m
  before-kept n m l = if_earlier-same m n _ _ (λ h. width-kept m (lt_of_lt_of_le h l))

  cell-ok-kept : (n : ℕ) (c : Cell) → n ≤ k → ok_cell b n c ≡ ok_cell a n c
  cell-ok-kept n c l = rw (before-kept n c.a l, before-kept n c.b l, before-kept n c.c l)

  -- and the sets
  sets-kept : (n m : ℕ) → n ≤ k → set_before_block b n m ≡ set_before_block a n m
  sets-kept n m l = if_earlier-same m n _ _ (λ h. set-kept m (lt_of_lt_of_le h l))

  rule-kept : (n : ℕ) (c : Cell) → n ≤ k → set_rule b n c ≡ set_rule a n c
  rule-kept n c l = rw (sets-kept n c.a l, sets-kept n c.b l, sets-kept n c.c l)

  ok-kept : (n : ℕ) → n ≤ k → ok_pool b n ≡ ok_pool a n
  unfolding ok_pool
  ok-kept zero l = refl
  ok-kept (suc n) l =
      let e = cell-kept n l in
      ap₂ ◌&&◌ (ok-kept n (le_of_lt l))
      (ap₂ ◌&&◌ (ap (ok_cell b n) e ∙ cell-ok-kept n (cell_at a n) (le_of_lt l))
      (ap₂ eqb (set-kept n l) (ap (set_rule b n) e ∙ rule-kept n (cell_at a n) (le_of_lt l))))

-- ---- four words written

-- the cell that packed words decode to
pub packed : (code w s i j l x y : ℕ) → code < 65536 → w < 65536 → i < 65536 → j < 65536
    → decode (kind_word code w s) (operand_word i j l) x y ≡ record { kind = kind_at code; width = w; a = i; b = j; c = l; x = x; y = y }
packed code w s i j l x y p t q r =
    let e0 : (code + 65536 * w + 4294967296 * s) % 65536 ≡ code = omega arith in
    let q1 : (code + 65536 * w + 4294967296 * s) / 65536 ≡ w + 65536 * s = omega arith in
    let e1 : (w + 65536 * s) % 65536 ≡ w = omega arith in
    let e2 : (i + 65536 * j + 4294967296 * l) % 65536 ≡ i = omega arith in
    let q3 : (i + 65536 * j + 4294967296 * l) / 65536 ≡ j + 65536 * l = omega arith in
    let e3 : (j + 65536 * l) % 65536 ≡ j = omega arith in
    let e4 : (i + 65536 * j + 4294967296 * l) / 4294967296 ≡ l = omega arith in
    rw (e0, q1, e1, e2, q3, e3, e4)

-- the kind's number and the set
pub packed-kind : (code w s : ℕ) → code < 65536 → kind_of (kind_word code w s) ≡ code
packed-kind code w s p = omega arith

pub packed-set : (code w s : ℕ) → code < 65536 → w < 65536 → set_of (kind_word code w s) ≡ s
packed-set code w s p t = omega arith

-- a node's words, written one after the other
module _ (ws : List ℕ) (k w0 w1 x y : ℕ) where
  abbrev one : List ℕ
  one = set ws (4 * k) w0

  abbrev two : List ℕ
  two = set one (4 * k + 1) w1

  abbrev three : List ℕ
  three = set two (4 * k + 2) x

  write-other : (i : ℕ) → (i < 4 * k) ⊎ (4 * (k + 1) ≤ i) → get_or (write_node ws k w0 w1 x y) i 0 ≡ get_or ws i 0
  write-other i h =
      get_or-set_other three (4 * k + 3) i y 0 (⊎_elim (λ l. omega arith) (λ l. omega arith) h)
      ∙ get_or-set_other two (4 * k + 2) i x 0 (⊎_elim (λ l. omega arith) (λ l. omega arith) h)
      ∙ get_or-set_other one (4 * k + 1) i w1 0 (⊎_elim (λ l. omega arith) (λ l. omega arith) h)
      ∙ get_or-set_other ws (4 * k) i w0 0 (⊎_elim (λ l. omega arith) (λ l. omega arith) h)

module _ (ws : List ℕ) (k w0 w1 x y : ℕ) (room : 4 * (k + 1) ≤ length ws) where
  write-first : get_or (write_node ws k w0 w1 x y) (4 * k) 0 ≡ w0
  write-first =
      get_or-set_other (three ws k w0 w1 x y) (4 * k + 3) (4 * k) y 0 (omega arith) ∙ get_or-set_other (two ws k w0 w1 x y) (4 * k + 2) (4 * k) x 0 (omega arith)
      ∙ get_or-set_other (one ws k w0 w1 x y) (4 * k + 1) (4 * k) w1 0 (omega arith)
      ∙ get_or-set_same ws (4 * k) w0 0 (omega arith)

  write_cell : cell_at (write_node ws k w0 w1 x y) k ≡ decode w0 w1 x y
  write_cell =
      let l1 = one ws k w0 w1 x y in
      let l2 = two ws k w0 w1 x y in
      let l3 = three ws k w0 w1 x y in
      let n1 : length l1 ≡ length ws = simp length-set in
      let n2 : length l2 ≡ length ws = simp length-set in
      let n3 : length l3 ≡ length ws = simp length-set in
      let f3 : get_or (set l3 (4 * k + 3) y) (4 * k + 3) 0 ≡ y = get_or-set_same l3 (4 * k + 3) y 0 (omega arith) in
      let f2 : get_or (set l3 (4 * k + 3) y) (4 * k + 2) 0 ≡ x =
      get_or-set_other l3 (4 * k + 3) (4 * k + 2) y 0 (omega arith) ∙ get_or-set_same l2 (4 * k + 2) x 0 (omega arith) in
      let f1 : get_or (set l3 (4 * k + 3) y) (4 * k + 1) 0 ≡ w1 =
      get_or-set_other l3 (4 * k + 3) (4 * k + 1) y 0 (omega arith) ∙ get_or-set_other l2 (4 * k + 2) (4 * k + 1) x 0 (omega arith)
      ∙ get_or-set_same l1 (4 * k + 1) w1 0 (omega arith) in
      λ i. decode (write-first i) (f1 i) (f2 i) (f3 i)

  write-plain : (n : ℕ) → (32 ≤ k → kind_of w0 ≡ 1 → ⊥) → 32 ≤ n → n ≡ k → kind_of (get_or (write_node ws k w0 w1 x y) (4 * n) 0) ≡ 1 → ⊥
  write-plain n h f e = rw (e, write-first) (h (omega arith))

  write-grown : (32 ≤ k → kind_of w0 ≡ 1 → ⊥) → Grown ws k (write_node ws k w0 w1 x y) (k + 1)
  write-grown h =
      record {
        long = simp length-set;
        more = omega arith;
        below = λ i l. write-other ws k w0 w1 x y i (inl l);
        above = λ i l. write-other ws k w0 w1 x y i (inr l);
        plain = λ n f l m. write-plain n h f (omega arith);
      }

-- one node more, of which the cell and the set are told
pub record Appended (old : List ℕ) (k : ℕ) (new : List ℕ) (r k' : ℕ) (cell : Cell) (s : ℕ) : Type 0 where
  pub at : r ≡ k
  pub next : k' ≡ k + 1
  pub grown : Grown old k new (k + 1)
  pub cell-is : cell_at new k ≡ cell
  pub set_is : set_at new k ≡ s

pub appended : {old : List ℕ} {k : ℕ} {new : List ℕ} {r k' w0 w1 w2 w3 s : ℕ} {cell : Cell} → Room old k 1 → Pushed old k new r k' w0 w1 w2 w3
    → (32 ≤ k → kind_of w0 ≡ 1 → ⊥) → decode w0 w1 w2 w3 ≡ cell → set_of w0 ≡ s
    → Appended old k new r k' cell s
appended {old} {k} {w0 = w0} {w1} {w2} {w3} m p h e f =
    record {
      at = p.at;
      next = p.next;
      grown = rw p.words (write-grown old k w0 w1 w2 w3 m.words h);
      cell-is = rw p.words (write_cell old k w0 w1 w2 w3 m.words ∙ e);
      set_is = rw p.words (ap set_of (write-first old k w0 w1 w2 w3 m.words) ∙ f);
    }

-- ---- what one node more makes

abbrev pub AllBelow : ℕ → List ℕ → Type 0
AllBelow k [] = Unit {0}
AllBelow k (m ∷ ms) = (m < k) × AllBelow k ms

-- the term of a cell, over the terms of the nodes before it
abbrev pub term_of : List ℕ → ℕ → Cell → Expr
term_of ws n k = shape k (earlier (ltb k.a n) (unfold_at ws k.a)) (earlier (ltb k.b n) (unfold_at ws k.b)) (earlier (ltb k.c n) (unfold_at ws k.c))

all-reached : (ws : List ℕ) (k : ℕ) (ms : List ℕ) → AllBelow k ms → ((m : ℕ) → Memᴰ m ms → Memᴰ m (operands (cell_at ws k))) → AllReached ws k ms
all-reached ws k [] h f = tt
all-reached ws k (m ∷ ms) h f = (Reach.down Reach.here h.0 (f m (Memᴰ.head refl)), all-reached ws k ms h.1 (λ n o. f n (Memᴰ.tail o)))

module _ {old new : List ℕ} {k s : ℕ} (cell : Cell) (g : Grown old k new (k + 1)) (e : cell_at new k ≡ cell) (f : set_at new k ≡ s) where
  term-kept : term_of new k cell ≡ term_of old k cell
  term-kept =
      shape_same cell (earlier-same _ k _ _ (λ l. unfold-kept g cell.a l)) (earlier-same _ k _ _ (λ l. unfold-kept g cell.b l))
      (earlier-same _ k _ _ (λ l. unfold-kept g cell.c l))

  valid-more : Valid old k → ok_cell old k cell ≡ true → s ≡ set_rule old k cell → Valid new (k + 1)
  unfolding ok_pool
  valid-more v o q =
      let kept : ok_cell new k (cell_at new k) ≡ true = ap (ok_cell new k) e ∙ cell-ok-kept g k cell (le_refl k) ∙ o in
      let set : set_at new k ≡ set_rule new k (cell_at new k) = f ∙ q ∙ sym (ap (set_rule new k) e ∙ rule-kept g k cell (le_refl k)) in
      rw (add-one k) (ap₂ ◌&&◌ (ok-kept g k (le_refl k) ∙ v) (ap₂ ◌&&◌ kept (eq-eqb (set_at new k) _ set)))

  wide_is : width_at new k ≡ cell.width
  wide_is = ap (λ (c : Cell). c.width) e

  made_at : Valid old k → ok_cell old k cell ≡ true → s ≡ set_rule old k cell → AllBelow k (operands cell) → Made old k new k (k + 1) cell.width (term_of old k cell) (operands cell)
  made_at v o q b =
      record {
        grown = g;
        valid = valid-more v o q;
        is = record { under = omega arith; wide = wide_is; tree = unfold-step new k cell e ∙ term-kept };
        all = λ m l h. subst (λ (n : ℕ). Reach new k n) (omega arith) Reach.here;
        ins_reached = all-reached new k (operands cell) b (λ m h. subst (λ (c : Cell). Memᴰ m (operands c)) (sym e) h);
      }

pub made_of : {old new : List ℕ} {k r k' s : ℕ} {cell : Cell} → Appended old k new r k' cell s → Valid old k → ok_cell old k cell ≡ true → s ≡ set_rule old k cell
    → AllBelow k (operands cell)
    → Made old k new r k' cell.width (term_of old k cell) (operands cell)
made_of {old} {new} {k} {r} {k'} {s} {cell} p v o q b = rw (p.at, p.next) (made_at cell p.grown p.cell-is p.set_is v o q b)

pub sized_of : {old new : List ℕ} {k r k' s : ℕ} {cell : Cell} → Appended old k new r k' cell s → Sized old k new r k' 1
sized_of p = record { long = p.grown.long; more = omega (arith, p.next); most = omega (arith, p.next); under = omega (arith, p.at, p.next) }
