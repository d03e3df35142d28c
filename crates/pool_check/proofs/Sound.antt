-- The rules of a pool's words give the rules of terms: each node of a valid pool unfolds to a term that keeps them and has the node's
-- width. Assumes nothing.
use mathlib.Core.Path.{◌≡◌, refl, sym, ◌∙◌}
use mathlib.Core.Bool.{true, false≢true}
use mathlib.Core.List.{List}
use Prim.Native.Nat.{ℕ, zero, suc, ◌<◌}
use native.Mathlib.Omega.{arith}
use lib.Dec.{ltb}
use borrow.Author.Tests.{lt-ltb}
use Rattle.terms.specs.Expr.{Expr, width}
use Rattle.terms.specs.Rules.{Good}
use Rattle.pool.specs.Node.{Kind, bad, var, const, bv, compare, ite, extract, concat, zext, sext, Cell, cell_at, width_at}
use Rattle.pool.specs.Rules.{ok_kind, width_before, Valid}
use Rattle.pool.specs.Unfold.{shape_of, earlier, unfold_to, unfold_at}
use Rattle.pool.proofs.Facts.{valid-node}
use Rattle.pool_rules.proofs.Kept.{wide-one, wide-most, register, var-wide, const-wide, const_fits, bv-tests, compare-tests, ite-tests, extract-tests, concat-tests, zext-tests}

-- t keeps the rules of a term, and has w bits
pub record Sound (t : Expr) (w : ℕ) : Type 0 where
  pub ok : Good t
  pub wide : width t ≡ w

-- a node n with the cell k, over the terms a, b and c of its operands, whose widths are A, B and C
module _ (n : ℕ) (k : Cell) (A B C : ℕ) (a b c : Expr) (sa : k.a < n → Sound a A) (sb : k.b < n → Sound b B) (sc : k.c < n → Sound c C) where
  by_kind : (κ : Kind) → ok_kind κ n k A B C ≡ true → Sound (shape_of κ k a b c) k.width
  unfolding Good width
  by_kind bad h = absurd (false≢true h)
  by_kind var h = record { ok = register n k A B C h; wide = sym (var-wide n k A B C h) }
  by_kind const h =
      let w = const-wide n k A B C h in
      record { ok = (wide-one k.width w, wide-most k.width w, const_fits n k A B C h); wide = refl }
  by_kind (bv o) h =
      let t = bv-tests n k A B C o h in
      let x = sa t.1 in
      let y = sb t.2 in
      record { ok = (x.ok, y.ok, x.wide ∙ t.3 ∙ sym (y.wide ∙ t.4), omega (arith, x.wide, t.3, wide-one k.width t.0)); wide = x.wide ∙ t.3 }
  by_kind (compare o) h =
      let t = compare-tests n k A B C o h in
      let x = sa t.1 in
      let y = sb t.2 in
      record { ok = (x.ok, y.ok, x.wide ∙ sym (y.wide ∙ t.4), omega (arith, x.wide, t.3)); wide = sym t.0 }
  by_kind ite h =
      let t = ite-tests n k A B C h in
      let x = sa t.1 in
      let y = sb t.2 in
      let z = sc t.3 in
      record {
        ok = (x.ok, y.ok, z.ok, x.wide ∙ t.4, y.wide ∙ t.5 ∙ sym (z.wide ∙ t.6), omega (arith, y.wide, t.5, wide-one k.width t.0));
        wide = y.wide ∙ t.5;
      }
  by_kind extract h =
      let t = extract-tests n k A B C h in
      let x = sa t.0 in
      record { ok = (x.ok, t.1, omega (arith, x.wide, t.2)); wide = omega (arith, t.1, t.3) }
  by_kind concat h =
      let t = concat-tests n k A B C h in
      let x = sa t.1 in
      let y = sb t.2 in
      record {
        ok = (
          x.ok,
          y.ok,
          omega (arith, x.wide, t.3),
          omega (arith, y.wide, t.4),
          omega (arith, x.wide, y.wide, t.5, wide-most k.width t.0),
        );
        wide = omega (arith, x.wide, y.wide, t.5);
      }
  by_kind zext h =
      let t = zext-tests n k A B C h in
      let x = sa t.1 in
      record { ok = (x.ok, omega (arith, x.wide, t.2), omega (arith, x.wide, t.3), wide-most k.width t.0); wide = refl }
  by_kind sext h =
      let t = zext-tests n k A B C h in
      let x = sa t.1 in
      record { ok = (x.ok, omega (arith, x.wide, t.2), omega (arith, x.wide, t.3), wide-most k.width t.0); wide = refl }

module _ (ws : List ℕ) (count : ℕ) (v : Valid ws count) where
  -- an operand, if it has a smaller number
  operand : (f n m : ℕ) → m < n → Sound (unfold_to f ws m) (width_at ws m) → Sound (earlier (ltb m n) (unfold_to f ws m)) (width_before ws n m)
  operand f n m h s = rw (lt-ltb m n h) s

  sound-to : (f n : ℕ) → n < f → n < count → Sound (unfold_to f ws n) (width_at ws n)
  unfolding unfold_to
  sound-to zero n l h = absurd (omega (arith, l))
  sound-to (suc f) n l h =
      let k = cell_at ws n in
      let at : (m : ℕ) → m < n → Sound (earlier (ltb m n) (unfold_to f ws m)) (width_before ws n m) = λ m e. operand f n m e (sound-to f m (omega (arith, l, e)) (omega (arith, h, e))) in
      by_kind n k _ _ _ _ _ _ (at k.a) (at k.b) (at k.c) k.kind (valid-node ws count n v h)

  pub sound : (n : ℕ) → n < count → Sound (unfold_at ws n) (width_at ws n)
  unfolding unfold_at
  sound n h = sound-to (suc n) n (omega arith) h
