-- Laws of joined cuts. Assumes nothing.
use mathlib.Core.Path.{◌≡◌, refl, ap₂, ◌∙◌}
use mathlib.Core.Bool.{Bool, true, false, cond}
use Prim.Native.Nat.{ℕ, ◌+◌, ◌≤◌}
use native.Mathlib.Omega.{arith}
use borrow.Author.Tests.{le-leb, leb-true}
use Rattle.terms.specs.Expr.{Expr, Var, Const, Bv, Compare, Ite, Extract, Concat, ZeroExtend, SignExtend}
use Rattle.trees.specs.Simd.{inside, extract_collapsing}

-- a cut inside a cut is the cut that rises by the inner lo
pub cut-cut : (t : Expr) (h l hi lo : ℕ) → hi + l ≤ h → extract_collapsing (extract_collapsing t h l) hi lo ≡ extract_collapsing t (hi + l) (lo + l)
cut-cut (Extract x ih il) h l hi lo b = go (inside h ih il) refl (cut-cut x (h + il) (l + il) hi lo (omega arith))
  where
    go : (t : Bool) → inside h ih il ≡ t → extract_collapsing (extract_collapsing x (h + il) (l + il)) hi lo ≡ extract_collapsing x (hi + (l + il)) (lo + (l + il))
        → extract_collapsing (cond t (extract_collapsing x (h + il) (l + il)) (Extract (Extract x ih il) h l)) hi lo ≡ extract_collapsing (Extract x ih il) (hi + l) (lo + l)
    go true e same =
        let fits : hi + l + il ≤ ih = omega (arith, leb-true (h + il) ih e) in
        same ∙ rw (le-leb (hi + l + il) ih fits) (ap₂ (λ (x' y' : ℕ). extract_collapsing x x' y') (omega arith) (omega arith))
    go false e same = rw (le-leb (hi + l) h b)
cut-cut (Var r) h l hi lo b = rw (le-leb (hi + l) h b)
cut-cut (Const v w) h l hi lo b = rw (le-leb (hi + l) h b)
cut-cut (Bv o x y) h l hi lo b = rw (le-leb (hi + l) h b)
cut-cut (Compare o x y) h l hi lo b = rw (le-leb (hi + l) h b)
cut-cut (Ite c x y) h l hi lo b = rw (le-leb (hi + l) h b)
cut-cut (Concat x y) h l hi lo b = rw (le-leb (hi + l) h b)
cut-cut (ZeroExtend x w) h l hi lo b = rw (le-leb (hi + l) h b)
cut-cut (SignExtend x w) h l hi lo b = rw (le-leb (hi + l) h b)
