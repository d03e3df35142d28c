-- The operands that a kind has not are 0 in a node that keeps the rules, so that each operand is below 65,536. Assumes nothing.
use mathlib.Core.Path.{◌≡◌, refl}
use mathlib.Core.Bool.{Bool, true, false, ◌&&◌, false≢true}
use mathlib.Core.List.{List}
use Prim.Native.Nat.{ℕ, ◌+◌, ◌-◌, ◌^◌, ◌<◌}
use lib.Dec.{ltb, leb, eqb}
use native.Mathlib.Omega.{arith}
use borrow.Author.Tests.{eqb-true}
use Rattle.facts.proofs.Tests.{and_both}
use Rattle.pool.specs.Node.{Kind, bad, var, const, bv, compare, ite, extract, concat, zext, sext, code_of, Cell, cell_at, wide}
use Rattle.pool.specs.Rules.{wide_is_ok, ok_kind, width_before, Valid}
use Rattle.pool.proofs.Facts.{valid-node}
use Rattle.pool_operands.specs.Operands.{has_a, has_b, has_c}
use Rattle.pool_operands.proofs.ByKind.{bv-a, bv-b, cmp-a, cmp-b, no, earlier-by}

pub record Unused (κ : Kind) (k : Cell) : Type 0 where
  pub a-none : has_a (code_of κ) ≡ false → k.a ≡ 0
  pub b-none : has_b (code_of κ) ≡ false → k.b ≡ 0
  pub c-none : has_c (code_of κ) ≡ false → k.c ≡ 0

-- the second of six tests, and what comes before the last four
second : (p q x y g i : Bool) → (p && q && x && y && g && i) ≡ true → (p ≡ true) × (q ≡ true)
second p q x y g i h = and_both p q (and_both (p && q) x (and_both (p && q && x) y (and_both (p && q && x && y) g (and_both (p && q && x && y && g) i h).0).0).0).0

module _ (n : ℕ) (k : Cell) (A B C : ℕ) where
  abbrev no-a : Bool
  no-a = eqb k.a 0

  abbrev no-b : Bool
  no-b = eqb k.b 0

  abbrev no-c : Bool
  no-c = eqb k.c 0

  -- no operand
  none : (p : Bool) → (p && no-a && no-b && no-c) ≡ true → (k.a ≡ 0) × (k.b ≡ 0) × (k.c ≡ 0)
  none p h =
      let p3 = and_both (p && no-a && no-b) no-c h in
      let p2 = and_both (p && no-a) no-b p3.0 in
      (eqb-true k.a 0 (and_both p no-a p2.0).1, eqb-true k.b 0 p2.1, eqb-true k.c 0 p3.1)

  extended : ok_kind zext n k A B C ≡ true → Unused zext k
  extended h =
      let z = second (wide_is_ok k.width && ltb k.a n && no-b) no-c (eqb k.x 0) (eqb k.y 0) (leb 1 A) (leb A k.width) h in
      let b = and_both (wide_is_ok k.width && ltb k.a n) no-b z.0 in
      record { a-none = λ e. no e refl; b-none = λ e. eqb-true k.b 0 b.1; c-none = λ e. eqb-true k.c 0 z.1 }

  unused-by : (κ : Kind) → ok_kind κ n k A B C ≡ true → Unused κ k
  unused-by bad h = absurd (false≢true h)
  unused-by var h =
      let p = and_both (eqb k.width 128 && no-a && no-b && no-c && ltb k.x 32) (eqb k.y 0) h in
      let z = none (eqb k.width 128) (and_both (eqb k.width 128 && no-a && no-b && no-c) (ltb k.x 32) p.0).0 in
      record { a-none = λ e. z.0; b-none = λ e. z.1; c-none = λ e. z.2 }
  unused-by const h =
      let z = none (wide_is_ok k.width) (and_both (wide_is_ok k.width && no-a && no-b && no-c) (ltb (wide k.x k.y) (2 ^ k.width)) h).0 in
      record { a-none = λ e. z.0; b-none = λ e. z.1; c-none = λ e. z.2 }
  unused-by (bv o) h =
      let z = second (wide_is_ok k.width && ltb k.a n && ltb k.b n) no-c (eqb k.x 0) (eqb k.y 0) (eqb A k.width) (eqb B k.width) h in
      record { a-none = λ e. no e (bv-a o); b-none = λ e. no e (bv-b o); c-none = λ e. eqb-true k.c 0 z.1 }
  unused-by (compare o) h =
      let z = second (eqb k.width 0 && ltb k.a n && ltb k.b n) no-c (eqb k.x 0) (eqb k.y 0) (leb 1 A) (eqb B A) h in
      record { a-none = λ e. no e (cmp-a o); b-none = λ e. no e (cmp-b o); c-none = λ e. eqb-true k.c 0 z.1 }
  unused-by ite h = record { a-none = λ e. no e refl; b-none = λ e. no e refl; c-none = λ e. no e refl }
  unused-by extract h =
      let p3 = and_both (ltb k.a n && no-b && no-c && leb k.y k.x && ltb k.x A) (eqb k.width (k.x - k.y + 1)) h in
      let p2 = and_both (ltb k.a n && no-b && no-c && leb k.y k.x) (ltb k.x A) p3.0 in
      let p1 = and_both (ltb k.a n && no-b && no-c) (leb k.y k.x) p2.0 in
      let z = and_both (ltb k.a n && no-b) no-c p1.0 in
      record { a-none = λ e. no e refl; b-none = λ e. eqb-true k.b 0 (and_both (ltb k.a n) no-b z.0).1; c-none = λ e. eqb-true k.c 0 z.1 }
  unused-by concat h =
      let before = wide_is_ok k.width && ltb k.a n && ltb k.b n in
      let p = and_both (before && no-c && eqb k.x 0 && eqb k.y 0 && leb 1 A && leb 1 B) (eqb k.width (A + B)) h in
      let z = second before no-c (eqb k.x 0) (eqb k.y 0) (leb 1 A) (leb 1 B) p.0 in
      record { a-none = λ e. no e refl; b-none = λ e. no e refl; c-none = λ e. eqb-true k.c 0 z.1 }
  unused-by zext h = extended h
  unused-by sext h = let z = extended h in record { a-none = λ e. no e refl; b-none = λ e. z.b-none refl; c-none = λ e. z.c-none refl }

module _ (ws : List ℕ) (count n : ℕ) (v : Valid ws count) (h : n < count) where
  abbrev cell : Cell
  cell = cell_at ws n

  abbrev operand-width : ℕ → ℕ
  operand-width = width_before ws n

  kept : ok_kind cell.kind n cell (operand-width cell.a) (operand-width cell.b) (operand-width cell.c) ≡ true
  kept = valid-node ws count n v h

  pub unused : Unused cell.kind cell
  unused = unused-by n cell _ _ _ cell.kind kept

  -- only word 1's highest part could be larger
  pub third-small : n < 65536 → cell.c < 65536
  third-small l =
      let less = earlier-by n cell _ _ _ cell.kind kept in
      go (has_c (code_of cell.kind)) (λ e. omega (arith, less.c-less e)) (λ e. omega (arith, unused.c-none e))
    where
      go : (t : Bool) → (t ≡ true → cell.c < 65536) → (t ≡ false → cell.c < 65536) → cell.c < 65536
      go true f g = f refl
      go false f g = g refl
