-- Terms with their cuts joined: they keep the rules and the width, and no cut of a cut is left; the cuts of a source are those of the source with its
-- cuts joined. Assumes nothing.
use mathlib.Core.Path.{◌≡◌, refl, sym, ap, ap₂, ◌∙◌}
use mathlib.Core.Bool.{true, ◌&&◌, not, false≢true}
use Prim.Native.Nat.{ℕ, suc, ◌+◌, ◌-◌, ◌≤◌, ◌<◌}
use native.Mathlib.Omega.{arith}
use borrow.Author.Tests.{le-leb}
use Rattle.facts.proofs.Tests.{and_both}
use Rattle.terms.specs.Expr.{Expr, Var, Const, Bv, Compare, Ite, Extract, Concat, ZeroExtend, SignExtend, width}
use Rattle.terms.specs.Rules.{Good}
use Rattle.trees.specs.Simd.{extract_collapsing}
use Rattle.trees.specs.Rust.{join_cuts}
use Rattle.trees.specs.Joined.{is_cut, all_joined, uncut}
use Rattle.trees.proofs.Cuts.{cut-cut}
use Rattle.trees_value.proofs.Fit.{fit-joined}

-- ---- a cut of a term with no cut of a cut

plain-cut : (t : Expr) (hi lo : ℕ) → not (is_cut t) ≡ true → extract_collapsing t hi lo ≡ Extract t hi lo
plain-cut (Extract x top low) hi lo e = absurd (false≢true e)
plain-cut (Var r) hi lo e = refl
plain-cut (Const v w) hi lo e = refl
plain-cut (Bv o a b) hi lo e = refl
plain-cut (Compare o a b) hi lo e = refl
plain-cut (Ite c a b) hi lo e = refl
plain-cut (Concat a b) hi lo e = refl
plain-cut (ZeroExtend a w) hi lo e = refl
plain-cut (SignExtend a w) hi lo e = refl

-- a cut up to hi of what is cut from `low` to `top` lies inside it
fits_in : (hi top low : ℕ) → low ≤ top → hi < suc (top - low) → hi + low ≤ top
fits_in hi top low l h = omega arith

pub cut-joined : (t : Expr) (hi lo : ℕ) → Good t → hi < width t → all_joined t ≡ true → all_joined (extract_collapsing t hi lo) ≡ true
unfolding all_joined Good width
cut-joined (Extract x top low) hi lo g h e =
    rw (le-leb (hi + low) top (fits_in hi top low g.1 h), plain-cut x (hi + low) (lo + low) (and_both (not (is_cut x)) (all_joined x) e).0) e
cut-joined (Var r) hi lo g h e = e
cut-joined (Const v w) hi lo g h e = e
cut-joined (Bv o a b) hi lo g h e = e
cut-joined (Compare o a b) hi lo g h e = e
cut-joined (Ite c a b) hi lo g h e = e
cut-joined (Concat a b) hi lo g h e = e
cut-joined (ZeroExtend a w) hi lo g h e = e
cut-joined (SignExtend a w) hi lo g h e = e

-- ---- a term with its cuts joined

joined_same : (t : Expr) → all_joined t ≡ true → join_cuts t ≡ t
unfolding all_joined join_cuts
joined_same (Extract x hi lo) e =
    let both = and_both (not (is_cut x)) (all_joined x) e in
    ap (λ (u : Expr). extract_collapsing u hi lo) (joined_same x both.1) ∙ plain-cut x hi lo both.0
joined_same (Var r) e = refl
joined_same (Const v w) e = refl
joined_same (Bv o a b) e = let both = and_both (all_joined a) (all_joined b) e in ap₂ (Bv o) (joined_same a both.0) (joined_same b both.1)
joined_same (Compare o a b) e = let both = and_both (all_joined a) (all_joined b) e in ap₂ (Compare o) (joined_same a both.0) (joined_same b both.1)
joined_same (Ite c a b) e =
    let first = and_both (all_joined c) (all_joined a && all_joined b) e in
    let both = and_both (all_joined a) (all_joined b) first.1 in
    rw (joined_same c first.0, joined_same a both.0, joined_same b both.1)
joined_same (Concat a b) e = let both = and_both (all_joined a) (all_joined b) e in ap₂ Concat (joined_same a both.0) (joined_same b both.1)
joined_same (ZeroExtend a w) e = ap (λ (u : Expr). ZeroExtend u w) (joined_same a e)
joined_same (SignExtend a w) e = ap (λ (u : Expr). SignExtend u w) (joined_same a e)

same-plain : (t : Expr) → all_joined t ≡ true → (hi lo : ℕ) → extract_collapsing t hi lo ≡ extract_collapsing (join_cuts t) hi lo
same-plain t e hi lo = ap (λ (u : Expr). extract_collapsing u hi lo) (sym (joined_same t e))

-- it keeps the rules and the width, and no cut of a cut is left
pub record Kept (t : Expr) : Type 0 where
  pub ok : Good (join_cuts t)
  pub wide : width (join_cuts t) ≡ width t
  pub joined : all_joined (join_cuts t) ≡ true

pub kept : (t : Expr) → Good t → Kept t
unfolding Good width all_joined join_cuts
kept (Extract a hi lo) g =
    let k = kept a g.0 in
    let h : hi < width (join_cuts a) = rw k.wide g.2 in
    let f = fit-joined (join_cuts a) hi lo g.1 h (record { wide = refl; some = omega arith; ok = k.ok }) in
    record { ok = f.ok; wide = f.wide; joined = cut-joined (join_cuts a) hi lo k.ok h k.joined }
kept (Var r) g = record { ok = g; wide = refl; joined = refl }
kept (Const v w) g = record { ok = g; wide = refl; joined = refl }
kept (Bv o a b) g =
    let k = kept a g.0 in
    let m = kept b g.1 in
    record { ok = (k.ok, m.ok, rw (k.wide, m.wide) g.2, rw k.wide g.3); wide = k.wide; joined = rw (k.joined, m.joined) }
kept (Compare o a b) g =
    let k = kept a g.0 in
    let m = kept b g.1 in
    record { ok = (k.ok, m.ok, rw (k.wide, m.wide) g.2, rw k.wide g.3); wide = refl; joined = rw (k.joined, m.joined) }
kept (Ite c a b) g =
    let t = kept c g.0 in
    let k = kept a g.1 in
    let m = kept b g.2 in
    record {
      ok = (t.ok, k.ok, m.ok, rw t.wide g.3, rw (k.wide, m.wide) g.4, rw k.wide g.5);
      wide = k.wide;
      joined = rw (t.joined, k.joined, m.joined);
    }
kept (Concat a b) g =
    let k = kept a g.0 in
    let m = kept b g.1 in
    record {
      ok = (k.ok, m.ok, rw k.wide g.2, rw m.wide g.3, rw (k.wide, m.wide) g.4);
      wide = rw (k.wide, m.wide);
      joined = rw (k.joined, m.joined);
    }
kept (ZeroExtend a w) g = let k = kept a g.0 in record { ok = (k.ok, rw k.wide g.1, rw k.wide g.2, g.3); wide = refl; joined = k.joined }
kept (SignExtend a w) g = let k = kept a g.0 in record { ok = (k.ok, rw k.wide g.1, rw k.wide g.2, g.3); wide = refl; joined = k.joined }

-- ---- a source: its cuts are those of the source with its cuts joined

pub same-cut : (t : Expr) → Good t → all_joined (uncut t) ≡ true → (hi lo : ℕ) → hi < width t → extract_collapsing t hi lo ≡ extract_collapsing (join_cuts t) hi lo
unfolding Good width join_cuts
same-cut (Extract x top low) g e hi lo h =
    let fits : hi + low ≤ top = fits_in hi top low g.1 h in
    rw (le-leb (hi + low) top fits) (same-cut x g.0 e (hi + low) (lo + low) (omega (arith, g.2)) ∙ sym (cut-cut (join_cuts x) top low hi lo fits))
same-cut (Var r) g e hi lo h = refl
same-cut (Const v w) g e hi lo h = refl
same-cut (Bv o a b) g e hi lo h = same-plain (Bv o a b) e hi lo
same-cut (Compare o a b) g e hi lo h = same-plain (Compare o a b) e hi lo
same-cut (Ite c a b) g e hi lo h = same-plain (Ite c a b) e hi lo
same-cut (Concat a b) g e hi lo h = same-plain (Concat a b) e hi lo
same-cut (ZeroExtend a w) g e hi lo h = same-plain (ZeroExtend a w) e hi lo
same-cut (SignExtend a w) g e hi lo h = same-plain (SignExtend a w) e hi lo
