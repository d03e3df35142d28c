-- The canonical words of a term that keeps the rules pass the pool check. Assumes nothing.
use mathlib.Core.Path.{◌≡◌, refl, sym, ap, ap₂, ◌∙◌, subst}
use mathlib.Core.Bool.{Bool, true, ◌&&◌}
use mathlib.Core.List.{List}
use Prim.Native.Nat.{ℕ, zero, suc, ◌+◌, ◌-◌, ◌*◌, ◌/◌, ◌%◌, ◌^◌, ◌≤◌, ◌<◌}
use native.Mathlib.Omega.{arith}
use lib.Bits.{bit_or}
use lib.ListN.{length}
use borrow.Author.Tests.{lt-ltb, le-leb, eq-eqb}
use Rattle.terms.specs.Expr.{Expr, Var, Const, Bv, Compare, Ite, Extract, Concat, ZeroExtend, SignExtend, width}
use Rattle.terms.specs.Rules.{Good}
use Rattle.terms.specs.Registers.{registers}
use Rattle.pool.specs.Node.{Cell, cell_at, width_at, set_at}
use Rattle.pool.proofs.Facts.{good-wide}
use Rattle.pool.specs.Rules.{wide_is_ok, width_before, set_before_block, set_rule, ok_cell, ok_node, ok_pool, Valid}
use Rattle.canonical.specs.Order.{parts, place}
use Rattle.canonical.specs.Words.{cell_in}
use Rattle.canonical.proofs.Lists.{at_place}
use Rattle.canonical.proofs.Trees.{All, at, Before, Closed}
use Rattle.canonical.proofs.Good.{all-at}
use Rattle.canonical.proofs.Words.{cell-width}

-- ---- each node keeps its rule

infixr 40 ◌&◌
◌&◌ : {a b : Bool} → a ≡ true → b ≡ true → (a && b) ≡ true
◌&◌ {a} {b} p q = rw (p, q)

wide_ok : (w : ℕ) → 0 < w → w ≤ 129 → wide_is_ok w ≡ true
wide_ok w h g = le-leb 1 w h & le-leb w 129 g

module _ (l : List Expr) (ws : List ℕ) (i : ℕ) (wides : (p : Expr) → place l p < i → width_at ws (place l p) ≡ width p) where
  seen : (p : Expr) → place l p < i → width_before ws i (place l p) ≡ width p
  seen p h = rw (lt-ltb (place l p) i h) (wides p h)

  ok-cell : (t : Expr) → Good t → Before l i (parts t) → ok_cell ws i (cell_in l t) ≡ true
  unfolding Good width
  ok-cell (Var r) g b = rw (lt-ltb r 32 g)
  ok-cell (Const v w) g b =
      let e : v % 18446744073709551616 + 18446744073709551616 * (v / 18446744073709551616) ≡ v = omega arith in
      rw (wide_ok w g.0 g.1, e, lt-ltb v (2 ^ w) g.2)
  ok-cell (Bv o a c) g b =
      rw (
        wide_ok (width a) g.3 (good-wide a g.0),
        seen a b.0,
        seen c b.1.0,
        lt-ltb (place l a) i b.0,
        lt-ltb (place l c) i b.1.0,
        eq-eqb (width a) (width a) refl,
        eq-eqb (width c) (width a) (sym g.2),
      )
  ok-cell (Compare o a c) g b =
      rw (
        seen a b.0,
        seen c b.1.0,
        lt-ltb (place l a) i b.0,
        lt-ltb (place l c) i b.1.0,
        le-leb 1 (width a) g.3,
        eq-eqb (width c) (width a) (sym g.2),
      )
  ok-cell (Ite d a c) g b =
      rw (
        wide_ok (width a) g.5 (good-wide a g.1),
        seen d b.0,
        seen a b.1.0,
        seen c b.1.1.0,
        lt-ltb (place l d) i b.0,
        lt-ltb (place l a) i b.1.0,
        lt-ltb (place l c) i b.1.1.0,
        eq-eqb (width d) 0 g.3,
        eq-eqb (width a) (width a) refl,
        eq-eqb (width c) (width a) (sym g.4),
      )
  ok-cell (Extract a hi lo) g b =
      rw (
        seen a b.0,
        lt-ltb (place l a) i b.0,
        le-leb lo hi g.1,
        lt-ltb hi (width a) g.2,
        eq-eqb (suc (hi - lo)) (hi - lo + 1) (omega arith),
      )
  ok-cell (Concat a c) g b =
      rw (
        wide_ok (width a + width c) (omega (arith, g.2)) g.4,
        seen a b.0,
        seen c b.1.0,
        lt-ltb (place l a) i b.0,
        lt-ltb (place l c) i b.1.0,
        le-leb 1 (width a) g.2,
        le-leb 1 (width c) g.3,
        eq-eqb (width a + width c) (width a + width c) refl,
      )
  ok-cell (ZeroExtend a w) g b =
      rw (wide_ok w (omega (arith, g.1, g.2)) g.3, seen a b.0, lt-ltb (place l a) i b.0, le-leb 1 (width a) g.1, le-leb (width a) w g.2)
  ok-cell (SignExtend a w) g b =
      rw (wide_ok w (omega (arith, g.1, g.2)) g.3, seen a b.0, lt-ltb (place l a) i b.0, le-leb 1 (width a) g.1, le-leb (width a) w g.2)

-- and its set the rule of sets
module _ (l : List Expr) (ws : List ℕ) (i : ℕ) (sets : (p : Expr) → place l p < i → set_at ws (place l p) ≡ registers p) where
  named : (p : Expr) → place l p < i → registers p ≡ set_before_block ws i (place l p)
  named p h = rw (lt-ltb (place l p) i h) (sym (sets p h))

  set-cell : (t : Expr) → Before l i (parts t) → registers t ≡ set_rule ws i (cell_in l t)
  unfolding registers
  set-cell (Var r) b = refl
  set-cell (Const v w) b = refl
  set-cell (Bv o a c) b = ap₂ bit_or (named a b.0) (named c b.1.0)
  set-cell (Compare o a c) b = ap₂ bit_or (named a b.0) (named c b.1.0)
  set-cell (Ite d a c) b = ap₂ bit_or (ap₂ bit_or (named d b.0) (named a b.1.0)) (named c b.1.1.0)
  set-cell (Extract a hi lo) b = named a b.0
  set-cell (Concat a c) b = ap₂ bit_or (named a b.0) (named c b.1.0)
  set-cell (ZeroExtend a w) b = named a b.0
  set-cell (SignExtend a w) b = named a b.0

module _ (l : List Expr) (c : Closed l) (g : All Good l) (ws : List ℕ) (cells : (i : ℕ) → i < length l → cell_at ws i ≡ cell_in l (at l i))
    (sets : (i : ℕ) → i < length l → set_at ws i ≡ registers (at l i)) where
  width-at : (i : ℕ) → i < length l → width_at ws i ≡ width (at l i)
  width-at i h = ap (λ (k : Cell). k.width) (cells i h) ∙ cell-width l (at l i)

  ok_at : (i : ℕ) → i < length l → ok_node ws i ≡ true
  ok_at i h =
      subst (λ (k : Cell). ok_cell ws i k ≡ true) (sym (cells i h))
      (ok-cell l ws i (λ p b. width-at (place l p) (omega arith) ∙ ap width (at_place l p (Var 0) (omega arith))) (at l i) (all-at Good l i g h) (c i h))
      & eq-eqb (set_at ws i) (set_rule ws i (cell_at ws i))
      (sets i h
      ∙ set-cell l ws i (λ p b. sets (place l p) (omega arith) ∙ ap registers (at_place l p (Var 0) (omega arith))) (at l i) (c i h)
      ∙ ap (set_rule ws i) (sym (cells i h)))

  pub ok-all : (n : ℕ) → n ≤ length l → Valid ws n
  unfolding ok_pool
  ok-all zero h = refl
  ok-all (suc n) h = ok-all n (omega arith) & ok_at n h
