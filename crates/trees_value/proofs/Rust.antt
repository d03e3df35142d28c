-- The Rust's trees have Arm's values: cutters whose cuts have the value of the cut make trees of the same value. The statements of trees/specs/Rust.antt.
-- Assumes nothing.
use mathlib.Core.Path.{◌≡◌, refl, sym, ap, ap₂, ◌∙◌}
use mathlib.Core.Bool.{Bool, true, false, cond, ◌&&◌}
use Prim.Native.Nat.{ℕ, suc, ◌+◌, ◌-◌, ◌/◌, ◌%◌, ◌^◌, ◌≤◌}
use native.Mathlib.Omega.{arith}
use lib.Dec.{eqb, leb}
use borrow.Author.Tests.{eqb-true, leb-true}
use Rattle.facts.proofs.Tests.{and_both}
use Rattle.terms.specs.Expr.{Expr, Var, Const, Bv, Compare, Ite, Extract, Concat, ZeroExtend, SignExtend, width}
use Rattle.terms.specs.Value.{value}
use Rattle.trees.specs.Simd.{Cutter, extract_once, rust, extract_collapsing, joining}
use Rattle.trees.specs.Rust.{RustIsArm, RustRunIsArm}
use Rattle.trees.proofs.Alike.{Alike, like-result, like-run}
use Rattle.trees_value.proofs.Lanes.{joined-cut, cut-value, cut-width}
use Rattle.trees_value.proofs.Whole.{result-is}
use Rattle.trees_value.proofs.Block.{block-is}

-- a cut of a cut from bit 0, as the cut of what that is cut from
once-value : (v top low hi lo : ℕ) → low ≡ 0 → lo ≤ hi → hi ≤ top
    → v / 2 ^ lo % 2 ^ suc (hi - lo) ≡ v / 2 ^ low % 2 ^ suc (top - low) / 2 ^ lo % 2 ^ suc (hi - lo)
once-value v top low hi lo z h l =
    ap₂ (λ (a s : ℕ). v / 2 ^ a % 2 ^ s) {x = lo} {y = lo + low} (omega arith) (omega arith) ∙ joined-cut v top low hi lo h (omega arith)

module _ (start : ℕ → ℕ) where
  -- terms of one width and value
  record Same (t u : Expr) : Type 0 where
    wide : width t ≡ width u
    val : value start t ≡ value start u

  -- a term with the width and the value of the cut
  record CutOf (e : Expr) (hi lo : ℕ) (t : Expr) : Type 0 where
    wide : width t ≡ suc (hi - lo)
    val : value start t ≡ value start e / 2 ^ lo % 2 ^ suc (hi - lo)

  -- a cutter whose cuts are such terms
  record Sound (c : Cutter) : Type 0 where
    lane : (e : Expr) (hi lo : ℕ) → lo ≤ hi → CutOf e hi lo (c.lane e hi lo)
    bits : (e : Expr) (hi lo : ℕ) → lo ≤ hi → CutOf e hi lo (c.bits e hi lo)

  plain-cut : (e : Expr) (hi lo : ℕ) → CutOf e hi lo (Extract e hi lo)
  unfolding value width
  plain-cut e hi lo = record { wide = refl; val = refl }

  once-cut : (e : Expr) (hi lo : ℕ) → lo ≤ hi → CutOf e hi lo (extract_once e hi lo)
  once-cut (Extract x top low) hi lo h = go (eqb low 0 && leb hi top) refl
    where
      go : (t : Bool) → (eqb low 0 && leb hi top) ≡ t → CutOf (Extract x top low) hi lo (cond t (Extract x hi lo) (Extract (Extract x top low) hi lo))
      go true e =
          let both = and_both (eqb low 0) (leb hi top) e in
          record {
            wide = unfold width in refl;
            val = unfold value in once-value (value start x) top low hi lo (eqb-true low 0 both.0) h (leb-true hi top both.1);
          }
      go false e = plain-cut (Extract x top low) hi lo
  once-cut (Var r) hi lo h = plain-cut (Var r) hi lo
  once-cut (Const v w) hi lo h = plain-cut (Const v w) hi lo
  once-cut (Bv o a b) hi lo h = plain-cut (Bv o a b) hi lo
  once-cut (Compare o a b) hi lo h = plain-cut (Compare o a b) hi lo
  once-cut (Ite c a b) hi lo h = plain-cut (Ite c a b) hi lo
  once-cut (Concat a b) hi lo h = plain-cut (Concat a b) hi lo
  once-cut (ZeroExtend a w) hi lo h = plain-cut (ZeroExtend a w) hi lo
  once-cut (SignExtend a w) hi lo h = plain-cut (SignExtend a w) hi lo

  rust-sound : Sound rust
  rust-sound = record { lane = once-cut; bits = λ e hi lo h. plain-cut e hi lo }

  joined-cut-of : (e : Expr) (hi lo : ℕ) → lo ≤ hi → CutOf e hi lo (extract_collapsing e hi lo)
  joined-cut-of e hi lo h = record { wide = cut-width e hi lo; val = cut-value start e hi lo h }

  joining-sound : Sound joining
  joining-sound = record { lane = joined-cut-of; bits = joined-cut-of }

  same-cut : (hi lo : ℕ) {a a' t t' : Expr} → Same a a' → CutOf a hi lo t → CutOf a' hi lo t' → Same t t'
  same-cut hi lo s p q = record { wide = p.wide ∙ sym q.wide; val = p.val ∙ ap (λ (x : ℕ). x / 2 ^ lo % 2 ^ suc (hi - lo)) s.val ∙ sym q.val }

  same-values : (c c' : Cutter) → Sound c → Sound c' → Alike Same c c'
  unfolding value width
  same-values c c' s s' = record {
    const = λ v w. record { wide = refl; val = refl };
    bv = λ o p q. record { wide = p.wide; val = rw (p.wide, p.val, q.val) };
    compare = λ o p q. record { wide = refl; val = rw (p.wide, p.val, q.val) };
    ite = λ r p q. record { wide = p.wide; val = rw (r.val, p.val, q.val) };
    concat = λ p q. record { wide = rw (p.wide, q.wide); val = rw (p.val, q.val, q.wide) };
    zext = λ w p. record { wide = refl; val = p.val };
    sext = λ w p. record { wide = refl; val = rw (p.wide, p.val) };
    lane = λ hi lo h {a} {a'} p. same-cut hi lo p (s.lane a hi lo h) (s'.lane a' hi lo h);
    bits = λ hi lo h {a} {a'} p. same-cut hi lo p (s.bits a hi lo h) (s'.bits a' hi lo h);
  }

  alike : Alike Same rust joining
  alike = same-values rust joining rust-sound joining-sound

  itself : (t : Expr) → Same t t
  itself t = record { wide = refl; val = refl }

pub rust-is-arm : RustIsArm
rust-is-arm start o v i d a b l h =
    (like-result (alike start) o v i (itself start d) (itself start a) (itself start b)).val ∙ (result-is start o v i d a b l h).val

pub rust-run-is-arm : RustRunIsArm
rust-run-is-arm start cs k r = (like-run (alike start) cs (λ x. itself start (Var x)) r).val ∙ block-is start cs k r
