-- What joining leaves: the value of the cut of the cut, and, of a term that keeps the rules, one Extract. Assumes nothing.
use mathlib.Core.Bool.{false}
use mathlib.Core.Path.{◌≡◌, refl, ap₂, ◌∙◌}
use Prim.Native.Nat.{ℕ, ◌+◌, ◌<◌, ◌≤◌}
use native.Mathlib.Omega.{arith}
use borrow.Author.Tests.{le-leb}
use Rattle.terms.specs.Expr.{Expr, Var, Const, Bv, Compare, Ite, Extract, Concat, ZeroExtend, SignExtend, width}
use Rattle.terms.specs.Value.{value}
use Rattle.trees.specs.Simd.{extract_collapsing}
use Rattle.trees.specs.Joined.{JoinedValue, is_cut, JoinedOnce}
use Rattle.trees_value.proofs.Lanes.{cut-width, cut-value}
use Rattle.trees_value.proofs.Fit.{Fit, inner}

pub joined-value : JoinedValue
unfolding value width
joined-value start t hi lo h = (cut-width t hi lo, cut-value start t hi lo h)

-- from where the cuts of a term of w bits are taken, and how far they rise
record Joined (e : Expr) (w : ℕ) : Type 0 where
  source : Expr
  by : ℕ
  plain : is_cut source ≡ false
  cut : (hi lo : ℕ) → hi < w → extract_collapsing e hi lo ≡ Extract source (hi + by) (lo + by)

still : (e : Expr) (w : ℕ) → is_cut e ≡ false → ((hi lo : ℕ) → extract_collapsing e hi lo ≡ Extract e hi lo) → Joined e w
still e w p q = record { source = e; by = 0; plain = p; cut = λ hi lo h. q hi lo ∙ ap₂ (λ (x y : ℕ). Extract e x y) (omega arith) (omega arith) }

joined : (e : Expr) {w : ℕ} → Fit e w → Joined e w
joined (Extract x top low) {w} p =
    let q = inner p in
    let j = joined x q.0 in
    record {
      source = j.source;
      by = low + j.by;
      plain = j.plain;
      cut = λ hi lo h.
          let fits : hi + low ≤ top = omega (arith, q.2, q.3) in
          rw (le-leb (hi + low) top fits)
          (j.cut (hi + low) (lo + low) (omega (arith, fits, q.1)) ∙ ap₂ (λ (a b : ℕ). Extract j.source a b) (omega arith) (omega arith));
    }
joined (Var r) {w} p = still (Var r) w refl (λ hi lo. refl)
joined (Const v b) {w} p = still (Const v b) w refl (λ hi lo. refl)
joined (Bv o a b) {w} p = still (Bv o a b) w refl (λ hi lo. refl)
joined (Compare o a b) {w} p = still (Compare o a b) w refl (λ hi lo. refl)
joined (Ite c a b) {w} p = still (Ite c a b) w refl (λ hi lo. refl)
joined (Concat a b) {w} p = still (Concat a b) w refl (λ hi lo. refl)
joined (ZeroExtend a v) {w} p = still (ZeroExtend a v) w refl (λ hi lo. refl)
joined (SignExtend a v) {w} p = still (SignExtend a v) w refl (λ hi lo. refl)

pub joined_once : JoinedOnce
joined_once t hi lo good h =
    let j = joined t (record { wide = refl; some = omega arith; ok = good }) in
    (j.source, j.by, j.plain, j.cut hi lo h)
