-- Lanes: a lane of a source, and lanes put together. Assumes nothing.
use mathlib.Core.Path.{◌≡◌, refl, sym, ap, ◌∙◌}
use mathlib.Core.Bool.{Bool, true, false, cond}
use Prim.Native.Nat.{ℕ, zero, suc, ◌+◌, ◌-◌, ◌*◌, ◌/◌, ◌%◌, ◌^◌, ◌≤◌, ◌<◌}
use native.Mathlib.Nat.{div-one, mod-lt, mul-suc, mul-zero, mul-one}
use native.Mathlib.Omega.{arith}
use borrow.Author.Tests.{leb-true}
use lib.Pow.{pow_pos, field, mod-mod-pow, shr-shr}
use lib.IntN.{ℤ, pos}
use Rattle.terms.specs.Expr.{Expr, Var, Const, Bv, Compare, Ite, Extract, Concat, ZeroExtend, SignExtend, width}
use Rattle.terms.specs.Value.{value}
use Rattle.neon.specs.Arm.{wrap, lane, lanes}
use Rattle.trees.specs.Simd.{inside, extract_collapsing, concat_lanes}
use Rattle.trees.specs.Trees.{extract_lane}
use Rattle.trees.specs.Simd as Simd
use Rattle.trees_value.proofs.Bv.{wrap-pos, cut-is}
use Rattle.trees_value.proofs.Is.{Is}

-- the bits from lo to hi of the low bits up to `top`
pub inner_cut : (v top hi lo : ℕ) → lo ≤ hi → hi ≤ top → v % 2 ^ suc top / 2 ^ lo % 2 ^ suc (hi - lo) ≡ v / 2 ^ lo % 2 ^ suc (hi - lo)
inner_cut v top hi lo h l =
    ap (λ (t : ℕ). v % 2 ^ t / 2 ^ lo % 2 ^ suc (hi - lo)) e ∙ ap (λ (t : ℕ). t % 2 ^ suc (hi - lo)) (field v (top - hi + suc (hi - lo)) lo)
    ∙ mod-mod-pow (v / 2 ^ lo) (top - hi) (suc (hi - lo))
  where
    e : suc top ≡ top - hi + suc (hi - lo) + lo
    e = omega arith

-- the one law of joined cuts: a cut of a cut has the bits of one that rises by the inner lo
pub joined-cut : (v top low hi lo : ℕ) → lo ≤ hi → hi + low ≤ top
    → v / 2 ^ (lo + low) % 2 ^ suc (hi + low - (lo + low)) ≡ v / 2 ^ low % 2 ^ suc (top - low) / 2 ^ lo % 2 ^ suc (hi - lo)
joined-cut v top low hi lo h l =
    let size : suc (hi + low - (lo + low)) ≡ suc (hi - lo) = omega arith in
    let place : lo + low ≡ low + lo = omega arith in
    rw (size, place) (ap (λ (t : ℕ). t % 2 ^ suc (hi - lo)) (sym (shr-shr v low lo)) ∙ sym (inner_cut (v / 2 ^ low) (top - low) hi lo h (omega arith)))

module _ (r : ℕ → ℕ) where
  -- a joined cut has the value of the cut
  pub cut-value : (e : Expr) (hi lo : ℕ) → lo ≤ hi → value r (extract_collapsing e hi lo) ≡ value r e / 2 ^ lo % 2 ^ suc (hi - lo)
  unfolding value
  cut-value (Extract x top low) hi lo h = go (inside hi top low) refl (cut-value x (hi + low) (lo + low) (omega arith))
    where
      go : (t : Bool) → inside hi top low ≡ t → value r (extract_collapsing x (hi + low) (lo + low)) ≡ value r x / 2 ^ (lo + low) % 2 ^ suc (hi + low - (lo + low))
          → unfold value in (value r (cond t (extract_collapsing x (hi + low) (lo + low)) (Extract (Extract x top low) hi lo)) ≡ value r (Extract x top low) / 2 ^ lo % 2 ^ suc (hi - lo))
      go true e ih = ih ∙ joined-cut (value r x) top low hi lo h (leb-true (hi + low) top e)
      go false e ih = refl
  cut-value (Var a) hi lo h = refl
  cut-value (Const v w) hi lo h = refl
  cut-value (Bv o a b) hi lo h = refl
  cut-value (Compare o a b) hi lo h = refl
  cut-value (Ite c a b) hi lo h = refl
  cut-value (Concat a b) hi lo h = refl
  cut-value (ZeroExtend a w) hi lo h = refl
  cut-value (SignExtend a w) hi lo h = refl

pub cut-width : (e : Expr) (hi lo : ℕ) → width (extract_collapsing e hi lo) ≡ suc (hi - lo)
unfolding width
cut-width (Extract x top low) hi lo = go (inside hi top low) (cut-width x (hi + low) (lo + low))
  where
    go : (t : Bool) → width (extract_collapsing x (hi + low) (lo + low)) ≡ suc (hi + low - (lo + low))
        → unfold width in (width (cond t (extract_collapsing x (hi + low) (lo + low)) (Extract (Extract x top low) hi lo)) ≡ suc (hi - lo))
    go true ih = ih ∙ omega arith
    go false ih = refl
cut-width (Var a) hi lo = refl
cut-width (Const v w) hi lo = refl
cut-width (Bv o a b) hi lo = refl
cut-width (Compare o a b) hi lo = refl
cut-width (Ite c a b) hi lo = refl
cut-width (Concat a b) hi lo = refl
cut-width (ZeroExtend a w) hi lo = refl
cut-width (SignExtend a w) hi lo = refl

pub lane-lt : (n j x : ℕ) → lane n j x < 2 ^ n
unfolding lane
lane-lt n j x = mod-lt (x / 2 ^ (n * j)) (pow_pos n)

module _ (r : ℕ → ℕ) where
  -- the n low bits stand for the same integer
  pub is-low : {a : Expr} {w n : ℕ} {x : ℤ} → 0 < n → n ≤ w → Is r a w x → Is r (extract_collapsing a (n - 1) 0) n x
  is-low {a = a} {w = w} {n = n} {x = x} hn h p =
      let size : suc (n - 1 - 0) ≡ n = omega arith in
      record { wide = cut-width a (n - 1) 0 ∙ size; val = cut-value r a (n - 1) 0 (omega arith) ∙ rw (size, p.val, div-one (wrap w x)) (cut-is w n x h) }

  pub is-lane : (e : Expr) (n j : ℕ) → 0 < n → Is r (extract_lane e n j) n (pos (lane n j (value r e)))
  unfolding Simd.extract_lane
  is-lane e n j hn =
      let size : suc (n * j + n - 1 - n * j) ≡ n = omega arith in
      record {
        wide = cut-width e (n * j + n - 1) (n * j) ∙ size;
        val = cut-value r e (n * j + n - 1) (n * j) (omega arith) ∙ rw (size, wrap-pos n (lane n j (value r e)) (lane-lt n j (value r e))) (unfold lane in refl);
      }

  pub concat-width : (n k : ℕ) (f : ℕ → Expr) → ((j : ℕ) → width (f j) ≡ n) → width (concat_lanes k f) ≡ n * suc k
  unfolding concat_lanes width
  concat-width n zero f h = h 0 ∙ sym (mul-one n)
  concat-width n (suc k) f h = rw (h (suc k), concat-width n k f h) (omega (arith, mul-suc n (suc k)))

  pub concat-value : (n k : ℕ) (f : ℕ → Expr) → ((j : ℕ) → width (f j) ≡ n) → value r (concat_lanes k f) ≡ lanes n (suc k) (λ j. value r (f j))
  unfolding concat_lanes value lanes
  concat-value n zero f h = rw (mul-zero n) (omega arith)
  concat-value n (suc k) f h = rw (concat-width n k f h, concat-value n k f h)
