-- A pool whose nodes are copied under other numbers, in order: the copies unfold to the same trees and keep the rules. Assumes nothing.
use mathlib.Core.Path.{◌≡◌, refl, sym, ap, ◌∙◌}
use mathlib.Core.Bool.{true, false}
use mathlib.Core.List.{List}
use Prim.Native.Nat.{ℕ, zero, suc, ◌<◌}
use native.Mathlib.Omega.{arith}
use lib.Dec.{ltb}
use borrow.Author.Tests.{lt-ltb, eq-eqb}
use Rattle.pool.specs.Node.{code_of, Kind, Cell, cell_at, set_at}
use Rattle.pool.specs.Rules.{ok_kind, ok_cell, ok_node, width_before, set_before_block, set_over, set_rule, Valid}
use Rattle.pool.specs.Unfold.{shape_of, earlier, unfold_at}
use Rattle.pool.proofs.Facts.{valid-node, valid-set}
use Rattle.pool.proofs.Laws.{unfold-step}
use Rattle.pool_operands.specs.Operands.{has_a, has_b, has_c}
use Rattle.pool_operands.proofs.ByKind.{earlier-by, shape-by}
use Rattle.join.proofs.ByKind.{ok-copy, set-copy}

-- the copy l of a cell k: the same kind, width and data, and the operands that the kind has under their new numbers
pub record CopyOf (f : ℕ → ℕ) (k l : Cell) : Type 0 where
  pub kind : l.kind ≡ k.kind
  pub wide : l.width ≡ k.width
  pub x-same : l.x ≡ k.x
  pub y-same : l.y ≡ k.y
  pub a-new : has_a (code_of k.kind) ≡ true → l.a ≡ f k.a
  pub b-new : has_b (code_of k.kind) ≡ true → l.b ≡ f k.b
  pub c-new : has_c (code_of k.kind) ≡ true → l.c ≡ f k.c
  pub a-old : has_a (code_of k.kind) ≡ false → l.a ≡ k.a
  pub b-old : has_b (code_of k.kind) ≡ false → l.b ≡ k.b
  pub c-old : has_c (code_of k.kind) ≡ false → l.c ≡ k.c

module _ (ws : List ℕ) (count : ℕ) (v : Valid ws count) (new : List ℕ) (f : ℕ → ℕ) (rising : (m n : ℕ) → m < n → f m < f n)
    (copies : (n : ℕ) → n < count → CopyOf f (cell_at ws n) (cell_at new (f n))) where
  renamed-below : (b n : ℕ) → n < b → n < count → unfold_at new (f n) ≡ unfold_at ws n
  renamed-below zero n g h = absurd (omega arith)
  renamed-below (suc b) n g h =
      let k = cell_at ws n in
      let l = cell_at new (f n) in
      let c = copies n h in
      let less = earlier-by n k (width_before ws n k.a) (width_before ws n k.b) (width_before ws n k.c) k.kind (valid-node ws count n v h) in
      let operand : (m q : ℕ) → m < n → q ≡ f m → earlier (ltb q (f n)) (unfold_at new q) ≡ earlier (ltb m n) (unfold_at ws m) = λ m q lt e.
      rw (e, lt-ltb (f m) (f n) (rising m n lt), lt-ltb m n lt) (renamed-below b m (omega arith) (omega arith)) in
      unfold-step new (f n) l refl
      ∙ ap (λ (κ : Kind). shape_of κ l (earlier (ltb l.a (f n)) (unfold_at new l.a)) (earlier (ltb l.b (f n)) (unfold_at new l.b))
      (earlier (ltb l.c (f n)) (unfold_at new l.c))) c.kind
      ∙ shape-by k.kind l k _ _ _ _ _ _ c.wide c.x-same c.y-same
      (λ e. operand k.a l.a (less.a-less e) (c.a-new e))
      (λ e. operand k.b l.b (less.b-less e) (c.b-new e))
      (λ e. operand k.c l.c (less.c-less e) (c.c-new e))
      ∙ sym (unfold-step ws n k refl)

  -- every term keeps its unfolded tree
  pub renamed : (n : ℕ) → n < count → unfold_at new (f n) ≡ unfold_at ws n
  renamed n h = renamed-below (suc n) n (omega arith) h

  -- the widths of a copy's operands are those of the node's
  width-copy : (n m q : ℕ) → n < count → m < n → q ≡ f m → (ltb q (f n) ≡ ltb m n) × (width_before new (f n) q ≡ width_before ws n m)
  width-copy n m q h l e =
      let a : ltb (f m) (f n) ≡ true = lt-ltb (f m) (f n) (rising m n l) in
      let b : ltb m n ≡ true = lt-ltb m n l in
      (rw (e, a, b), rw (e, a, b) (copies m (omega arith)).wide)

  -- and keeps the rule of its kind
  cell-copy : (n : ℕ) → n < count → ok_cell new (f n) (cell_at new (f n)) ≡ true
  cell-copy n h =
      let k = cell_at ws n in
      let l = cell_at new (f n) in
      let c = copies n h in
      let ok = valid-node ws count n v h in
      let less = earlier-by n k (width_before ws n k.a) (width_before ws n k.b) (width_before ws n k.c) k.kind ok in
      ap (λ (κ : Kind). ok_kind κ (f n) l (width_before new (f n) l.a) (width_before new (f n) l.b) (width_before new (f n) l.c)) c.kind
      ∙ ok-copy k.kind (f n) n l k _ _ _ _ _ _ c.wide c.x-same c.y-same
      (λ e. width-copy n k.a l.a h (less.a-less e) (c.a-new e)) c.a-old
      (λ e. width-copy n k.b l.b h (less.b-less e) (c.b-new e)) c.b-old
      (λ e. width-copy n k.c l.c h (less.c-less e) (c.c-new e)) c.c-old
      ∙ ok

  module _ (sets : (n : ℕ) → n < count → set_at new (f n) ≡ set_at ws n) where
    set-seen : (n m q : ℕ) → n < count → m < n → q ≡ f m → set_before_block new (f n) q ≡ set_before_block ws n m
    set-seen n m q h l e =
        let a : ltb (f m) (f n) ≡ true = lt-ltb (f m) (f n) (rising m n l) in
        let b : ltb m n ≡ true = lt-ltb m n l in
        rw (e, a, b) (sets m (omega arith))

    -- and that of its set
    rule-copy : (n : ℕ) → n < count → set_rule new (f n) (cell_at new (f n)) ≡ set_rule ws n (cell_at ws n)
    rule-copy n h =
        let k = cell_at ws n in
        let l = cell_at new (f n) in
        let c = copies n h in
        let less = earlier-by n k (width_before ws n k.a) (width_before ws n k.b) (width_before ws n k.c) k.kind (valid-node ws count n v h) in
        ap (λ (κ : Kind). set_over κ l.x (set_before_block new (f n) l.a) (set_before_block new (f n) l.b) (set_before_block new (f n) l.c)) c.kind
        ∙ set-copy k.kind l.x k.x _ _ _ _ _ _ c.x-same
        (λ e. set-seen n k.a l.a h (less.a-less e) (c.a-new e))
        (λ e. set-seen n k.b l.b h (less.b-less e) (c.b-new e))
        (λ e. set-seen n k.c l.c h (less.c-less e) (c.c-new e))

    pub copy-ok : (n : ℕ) → n < count → ok_node new (f n) ≡ true
    copy-ok n h =
        rw (cell-copy n h)
        (eq-eqb (set_at new (f n)) (set_rule new (f n) (cell_at new (f n))) (sets n h ∙ valid-set ws count n v h ∙ sym (rule-copy n h)))
