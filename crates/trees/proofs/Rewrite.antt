-- The tree of this port is the Rust's with its cuts joined, and joining again changes nothing: the statements of specs/Rust.antt on trees.
-- Assumes nothing.
use mathlib.Core.Path.{◌≡◌, refl, sym, ap, ap₂, ◌∙◌}
use mathlib.Core.Bool.{Bool, true, false, cond, ◌&&◌}
use Prim.Native.Nat.{ℕ, ◌+◌, ◌≤◌}
use native.Mathlib.Omega.{arith}
use lib.Dec.{eqb, leb}
use borrow.Author.Tests.{eqb-true, leb-true}
use Rattle.facts.proofs.Tests.{and_both}
use Rattle.terms.specs.Expr.{Expr, Var, Const, Bv, Compare, Ite, Extract, Concat, ZeroExtend, SignExtend}
use Rattle.neon.specs.Op.{Op, Arrangement}
use Rattle.trees.specs.Simd.{Cutter, extract_once, rust, inside, extract_collapsing, joining}
use Rattle.trees.specs.Trees.{result_tree}
use Rattle.trees.specs.Rust.{join_cuts, RustRewritten, RustRunRewritten}
use Rattle.trees.proofs.Cuts.{cut-cut}
use Rattle.trees.proofs.Alike.{Alike, like-result, like-run}

-- u is t with its cuts joined
abbrev pub JoinsTo : Expr → Expr → Type 0
JoinsTo t u = join_cuts t ≡ u

-- a cut by the Rust's `extract_collapsing`
joins-once : (t : Expr) (hi lo : ℕ) → join_cuts (extract_once t hi lo) ≡ extract_collapsing (join_cuts t) hi lo
unfolding join_cuts
joins-once (Extract x top low) hi lo = go (eqb low 0 && leb hi top) refl
  where
    go : (t : Bool) → (eqb low 0 && leb hi top) ≡ t
        → unfold join_cuts in (join_cuts (cond t (Extract x hi lo) (Extract (Extract x top low) hi lo))
        ≡ extract_collapsing (extract_collapsing (join_cuts x) top low) hi lo)
    go true e =
        let both = and_both (eqb low 0) (leb hi top) e in
        let zero-low : low ≡ 0 = eqb-true low 0 both.0 in
        let fits : hi ≤ top = leb-true hi top both.1 in
        ap₂ (λ (h l : ℕ). extract_collapsing (join_cuts x) h l) {y = hi + low} (omega arith) (omega arith)
        ∙ sym (cut-cut (join_cuts x) top low hi lo (omega arith))
    go false e = refl
joins-once (Var r) hi lo = refl
joins-once (Const v w) hi lo = refl
joins-once (Bv o a b) hi lo = refl
joins-once (Compare o a b) hi lo = refl
joins-once (Ite c a b) hi lo = refl
joins-once (Concat a b) hi lo = refl
joins-once (ZeroExtend a w) hi lo = refl
joins-once (SignExtend a w) hi lo = refl

-- a cut by the cutter that joins
joins-all : (t : Expr) (hi lo : ℕ) → join_cuts (extract_collapsing t hi lo) ≡ extract_collapsing (join_cuts t) hi lo
unfolding join_cuts
joins-all (Extract x top low) hi lo = go (inside hi top low) refl (joins-all x (hi + low) (lo + low))
  where
    go : (t : Bool) → inside hi top low ≡ t → join_cuts (extract_collapsing x (hi + low) (lo + low)) ≡ extract_collapsing (join_cuts x) (hi + low) (lo + low)
        → unfold join_cuts in (join_cuts (cond t (extract_collapsing x (hi + low) (lo + low)) (Extract (Extract x top low) hi lo))
        ≡ extract_collapsing (extract_collapsing (join_cuts x) top low) hi lo)
    go true e ih = ih ∙ sym (cut-cut (join_cuts x) top low hi lo (leb-true (hi + low) top e))
    go false e ih = refl
joins-all (Var r) hi lo = refl
joins-all (Const v w) hi lo = refl
joins-all (Bv o a b) hi lo = refl
joins-all (Compare o a b) hi lo = refl
joins-all (Ite c a b) hi lo = refl
joins-all (Concat a b) hi lo = refl
joins-all (ZeroExtend a w) hi lo = refl
joins-all (SignExtend a w) hi lo = refl

-- a cutter whose cuts join to joined ones
joins : (c : Cutter) → ((t : Expr) (hi lo : ℕ) → join_cuts (c.lane t hi lo) ≡ extract_collapsing (join_cuts t) hi lo)
    → ((t : Expr) (hi lo : ℕ) → join_cuts (c.bits t hi lo) ≡ extract_collapsing (join_cuts t) hi lo)
    → Alike JoinsTo c joining
unfolding join_cuts
joins c lane bits = record {
  const = λ v w. refl;
  bv = λ o p q. ap₂ (Bv o) p q;
  compare = λ o p q. ap₂ (Compare o) p q;
  ite = λ r p q. rw (r, p, q);
  concat = λ p q. ap₂ Concat p q;
  zext = λ w p. ap (λ (t : Expr). ZeroExtend t w) p;
  sext = λ w p. ap (λ (t : Expr). SignExtend t w) p;
  lane = λ hi lo h {a} p. lane a hi lo ∙ ap (λ (t : Expr). extract_collapsing t hi lo) p;
  bits = λ hi lo h {a} p. bits a hi lo ∙ ap (λ (t : Expr). extract_collapsing t hi lo) p;
}

rust-joins : Alike JoinsTo rust joining
rust-joins = joins rust joins-once (λ t hi lo. unfold join_cuts in refl)

pub rust-rewritten : RustRewritten
rust-rewritten o v i d a b = like-result rust-joins o v i refl refl refl

var-joins : (x : ℕ) → join_cuts (Var x) ≡ Var x
unfolding join_cuts
var-joins x = refl

pub rust-run-rewritten : RustRunRewritten
rust-run-rewritten cs r = like-run rust-joins cs var-joins r

-- the tree of this port, joined again
pub result-joins : (o : Op) (v : Arrangement) (i : ℕ) (d a b : Expr)
    → join_cuts (result_tree o v i d a b) ≡ result_tree o v i (join_cuts d) (join_cuts a) (join_cuts b)
result-joins o v i d a b = like-result (joins joining joins-all joins-all) o v i refl refl refl
