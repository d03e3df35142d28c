-- Cuts: what a cut is taken from, step by step past the Extracts, and that it is the term of a joined cut. Assumes nothing.
use Prim.Native.Nat.{ℕ, zero, suc, ◌+◌, ◌-◌, ◌*◌, ◌≤◌, ◌<◌}
use mathlib.Core.Path.{◌≡◌, refl, sym, ap, ap₂, ◌∙◌}
use mathlib.Core.Bool.{true, false, false≢true}
use mathlib.Core.List.{List}
use mathlib.Core.Logic.{⊎_elim}
use native.Mathlib.Omega.{arith}
use native.Mathlib.Nat.{lt_trans, not-suc-le-zero}
use borrow.Author.Tests.{lt-ltb, le-leb, ltb-true, leb-true, eqb-true}
use Rattle.facts.proofs.Tests.{and_both}
use Rattle.terms.specs.Expr.{Expr, Extract}
use Rattle.pool.specs.declared.Node.{Node}
use Rattle.pool.specs.declared.Built.{Built}
use Rattle.pool.specs.Node.{Kind, bad, var, const, bv, compare, ite, extract, concat, zext, sext, kinds, kind_at, code_of, Cell, cell_at, word_at, kind_number, width_at}
use Rattle.pool_fields.specs.Fields.{op_a}
use Rattle.pool.specs.Rules.{Valid, width_before}
use Rattle.pool.specs.Unfold.{shape_of, unfold_at}
use Rattle.pool.specs.Growth.{NodeIs}
use Rattle.pool_nodes.specs.Builders.{MadeExtract}
use Rattle.pool.proofs.Laws.{unfold-step}
use Rattle.pool.proofs.Facts.{kind-code, valid-node, ExtractRule, extract-rule}
use Rattle.pool.proofs.Steps.{forget}
use Rattle.pool_rules.proofs.Kept.{Ok, most-bad, most-var, most-const, most-bv, most-compare, most-ite, most-extract, most-concat, most-zext}
use Rattle.trees.specs.Simd.{extract_collapsing as cut}
use Rattle.trees.specs.Simd as Simd
use Rattle.lower_simd.specs.Cut.{rises_at, Source, CutFrom, MadeCut, MadeLane}

-- ---- no width of a valid pool is above 129

most-of : (n : ℕ) (k : Cell) (A B C : ℕ) → (k.a < n → A ≤ 129) → (κ : Kind) → Ok n k A B C κ → k.width ≤ 129
most-of n k A B C small bad = most-bad n k A B C small
most-of n k A B C small var = most-var n k A B C small
most-of n k A B C small const = most-const n k A B C small
most-of n k A B C small (bv o) = most-bv n k A B C small o
most-of n k A B C small (compare o) = most-compare n k A B C small o
most-of n k A B C small ite = most-ite n k A B C small
most-of n k A B C small extract = most-extract n k A B C small
most-of n k A B C small concat = most-concat n k A B C small
most-of n k A B C small zext = most-zext n k A B C small
most-of n k A B C small sext = most-zext n k A B C small

width-to : (ws : List ℕ) (k : ℕ) → Valid ws k → (f n : ℕ) → n < f → n < k → width_at ws n ≤ 129
width-to ws k v zero n l h = absurd (not-suc-le-zero l)
width-to ws k v (suc f) n l h =
    let c = cell_at ws n in
    most-of n c (width_before ws n c.a) (width_before ws n c.b) (width_before ws n c.c)
    (λ e. rw (lt-ltb c.a n e) (width-to ws k v f c.a (omega arith) (lt_trans e h))) c.kind (valid-node ws k n v h)

width-most : (ws : List ℕ) (k n : ℕ) → Valid ws k → n < k → width_at ws n ≤ 129
width-most ws k n v h = width-to ws k v (suc n) n (omega arith) h

-- ---- one step past an Extract

-- where a cut of node v has got to: node n, `by` bits higher
pub record Reached (ws : List ℕ) (v hi n by : ℕ) (k : ℕ) (t : Expr) : Type 0 where
  pub width : ℕ
  pub term : Expr
  pub is : NodeIs ws k n width term
  pub inside : hi + by < width
  pub same : (h l : ℕ) → h ≤ hi → cut t h l ≡ cut term (h + by) (l + by)

-- what the loop keeps
pub record Kept (ws : List ℕ) (v hi n by : ℕ) : Type 0 where
  pub below : n ≤ v
  pub small : hi + by ≤ 128
  pub at : {k w : ℕ} {t : Expr} → Valid ws k → hi < w → NodeIs ws k v w t → Reached ws v hi n by k t

pub kept-none : (ws : List ℕ) (v hi : ℕ) → hi ≤ 128 → Kept ws v hi v 0
kept-none ws v hi h =
    record {
      below = omega arith;
      small = omega arith;
      at = λ {k} {w} {t} val i x.
          record { width = w; term = t; is = x; inside = omega arith; same = λ h l b. ap₂ (λ (x y : ℕ). cut t x y) (omega arith) (omega arith) };
    }

-- the tests that a cut rises
pub record Rises (ws : List ℕ) (n hi : ℕ) : Type 0 where
  pub code : kind_number ws n ≡ 16
  pub down : op_a ws n < n
  pub room : word_at ws n 3 ≤ 128 - hi

pub rising : (ws : List ℕ) (n hi : ℕ) → rises_at ws n hi ≡ true → Rises ws n hi
rising ws n hi e =
    let p2 = and_both _ _ e in
    let p1 = and_both _ _ p2.0 in
    record { code = eqb-true _ _ p1.0; down = ltb-true _ _ p1.1; room = leb-true _ _ p2.1 }

module _ {ws : List ℕ} {v hi n by : ℕ} (q : Kept ws v hi n by) where
  step : Rises ws n (hi + by) → {k : ℕ} {t : Expr} → Valid ws k → Reached ws v hi n by k t → Reached ws v hi (op_a ws n) (by + word_at ws n 3) k t
  unfolding kind_at kinds
  step r {k} {t} val s =
      let c = cell_at ws n in
      let kind : c.kind ≡ extract = ap kind_at r.code in
      let rule : ExtractRule ws n c = extract-rule ws n c (rw kind at (valid-node ws k n val s.is.under)) in
      let T = unfold_at ws c.a in
      let tree : s.term ≡ Extract T c.x c.y = sym s.is.tree ∙ (unfold-step ws n c refl ∙ rw (r.code, lt-ltb c.a n r.down)) in
      let fits : hi + by + c.y ≤ c.x = omega (arith, s.inside, s.is.wide, rule.wide_is, rule.ordered) in
      record {
        width = width_at ws c.a;
        term = T;
        is = record { under = lt_trans r.down s.is.under; wide = refl; tree = refl };
        inside = omega (arith, fits, rule.inside);
        same = λ h l b.
            let in-it : h + by + c.y ≤ c.x = omega (arith, fits, b) in
            s.same h l b ∙ ap (λ (e : Expr). cut e (h + by) (l + by)) tree ∙ rw (le-leb (h + by + c.y) c.x in-it) (ap₂ (λ (x y : ℕ). cut T x y) (omega arith) (omega arith));
      }

  pub kept_more : Rises ws n (hi + by) → Kept ws v hi (op_a ws n) (by + word_at ws n 3)
  kept_more r =
      record {
        below = omega (arith, q.below, r.down);
        small = omega (arith, q.small, r.room);
        at = λ val i x. step r val (q.at val i x);
      }

-- ---- the end: the term is no Extract

plain : (κ : Kind) (c : Cell) (A B C : Expr) → (κ ≡ extract → ⊥) → (h l : ℕ) → cut (shape_of κ c A B C) h l ≡ Extract (shape_of κ c A B C) h l
plain bad c A B C f h l = refl
plain var c A B C f h l = refl
plain const c A B C f h l = refl
plain (bv o) c A B C f h l = refl
plain (compare o) c A B C f h l = refl
plain ite c A B C f h l = refl
plain extract c A B C f h l = absurd (f refl)
plain concat c A B C f h l = refl
plain zext c A B C f h l = refl
plain sext c A B C f h l = refl

-- only 16 is an Extract's number
extract-code : (n : ℕ) → kind_at n ≡ extract → n ≡ 16
extract-code n e =
    ⊎_elim (λ p. let z : ◌≡◌ {A = ℕ} 0 16 = ap code_of (sym p ∙ e) in absurd (omega arith)) (λ p. sym p ∙ ap code_of e) (kind-code n)

module _ {ws : List ℕ} {v hi n by : ℕ} (q : Kept ws v hi n by) where
  ended : rises_at ws n (hi + by) ≡ false → {k : ℕ} {t : Expr} → Valid ws k → Reached ws v hi n by k t → Source ws k t hi n by
  ended e {k} {t} val s =
      let c = cell_at ws n in
      let no : c.kind ≡ extract → ⊥ = λ kind.
      let rule : ExtractRule ws n c = extract-rule ws n c (rw kind at (valid-node ws k n val s.is.under)) in
      let most : width_at ws c.a ≤ 129 = width-most ws k c.a val (lt_trans rule.earlier-a s.is.under) in
      let fits : c.y ≤ 128 - (hi + by) = omega (arith, s.inside, s.is.wide, rule.wide_is, rule.ordered, rule.inside) in
      let z : true ≡ false = rw (extract-code (kind_number ws n) kind, lt-ltb c.a n rule.earlier-a, le-leb c.y (128 - (hi + by)) fits) at e in
      false≢true (sym z) in
      record {
        width = s.width;
        term = s.term;
        is = s.is;
        inside = s.inside;
        plain = rw (sym s.is.tree ∙ unfold-step ws n c refl) (plain c.kind c _ _ _ no);
        same = s.same;
      }

  pub from-kept : rises_at ws n (hi + by) ≡ false → CutFrom ws v hi n by
  from-kept e = record { below = q.below; small = q.small; from = λ val i x. ended e val (q.at val i x) }

pub cut-built : {old : List ℕ} {k : ℕ} {new : List ℕ} {r : Built} {value from : Node} {hi lo by : ℕ} → CutFrom old value.0 hi from.0 by
    → MadeExtract old k new r from (hi + by) (lo + by)
    → MadeCut old k new r value hi lo
cut-built {hi = hi} {lo = lo} {by = by} c d =
    record {
      sized = d.sized;
      at = d.words.at;
      next = d.words.next;
      made = λ {w} {u} {t} v b q x.
          let s = c.from v b x in
          rw (s.same hi lo (omega arith), s.plain (hi + by) (lo + by)) (forget (d.made v s.inside (omega arith) s.is));
    }

pub lane-built : {old : List ℕ} {k : ℕ} {new : List ℕ} {r : Built} {value : Node} {bits index : ℕ} → 1 ≤ bits → MadeCut old k new r value (bits * index + bits - 1) (bits * index)
    → MadeLane old k new r value bits index
unfolding Simd.extract_lane
lane-built b d = record { sized = d.sized; made = λ v l x. d.made v (omega arith) (omega arith) x }
