-- Two starts that agree on the registers of a term give it the same value. Assumes nothing.
use mathlib.Core.Path.{◌≡◌, refl, ap, ◌∙◌}
use Prim.Native.Nat.{ℕ, ◌/◌, ◌%◌, ◌^◌, ◌<◌}
use native.Mathlib.Omega.{arith}
use native.Mathlib.Nat.{mod-lt, div_self}
use lib.Bits as B
use lib.Bits.{bit_or}
use lib.Pow.{pow_pos}
use Rattle.terms.specs.Expr.{Expr, Var, Const, Bv, Compare, Ite, Extract, Concat, ZeroExtend, SignExtend}
use Rattle.terms.specs.Value.{value}
use Rattle.terms.specs.Registers.{registers, InSet, Agree}

-- a bit of a union
pub in_left : (x s t : ℕ) → InSet x s → InSet x (bit_or s t)
in_left x s t h = ap (λ (z : ℕ). z % 2) (B.or_shr s t x) ∙ B.or_mod (s / 2 ^ x) (t / 2 ^ x) 1 ∙ rw h (go (t / 2 ^ x % 2) (mod-lt (t / 2 ^ x) (omega arith)))
  where
    go : (y : ℕ) → y < 2 → bit_or 1 y ≡ 1
    go y l = omega (arith, B.or_add_and 1 y, B.and_le_r 1 y, B.or_lt 1 1 y (omega arith) (omega arith))

pub in_right : (x s t : ℕ) → InSet x t → InSet x (bit_or s t)
in_right x s t h = rw (B.or_comm s t) (in_left x t s h)

module _ (r r' : ℕ → ℕ) where
  left-of : (s t : ℕ) → Agree r r' (bit_or s t) → Agree r r' s
  left-of s t h x i = h x (in_left x s t i)

  right_of : (s t : ℕ) → Agree r r' (bit_or s t) → Agree r r' t
  right_of s t h x i = h x (in_right x s t i)

  pub same-value : (t : Expr) → Agree r r' (registers t) → value r t ≡ value r' t
  unfolding registers value
  same-value (Var x) h = h x (rw (div_self (pow_pos x)))
  same-value (Const v w) h = refl
  same-value (Bv o a b) h = rw (same-value a (left-of (registers a) (registers b) h), same-value b (right_of (registers a) (registers b) h))
  same-value (Compare o a b) h = rw (same-value a (left-of (registers a) (registers b) h), same-value b (right_of (registers a) (registers b) h))
  same-value (Ite c a b) h =
      let g = left-of (bit_or (registers c) (registers a)) (registers b) h in
      rw (
        same-value c (left-of (registers c) (registers a) g),
        same-value a (right_of (registers c) (registers a) g),
        same-value b (right_of (bit_or (registers c) (registers a)) (registers b) h),
      )
  same-value (Extract a hi lo) h = rw (same-value a h)
  same-value (Concat a b) h = rw (same-value a (left-of (registers a) (registers b) h), same-value b (right_of (registers a) (registers b) h))
  same-value (ZeroExtend a w) h = same-value a h
  same-value (SignExtend a w) h = rw (same-value a h)
