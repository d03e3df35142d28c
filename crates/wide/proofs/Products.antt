-- The product of three words by three. Assumes nothing.
use Rattle.std.proofs.Common.{◌≡◌, ℕ, ◌+◌, ◌*◌, ◌/◌, ◌%◌, ◌^◌, sym, ap, ◌∙◌, ap₂, div-add-mod', arith}
use Rattle.terms.specs.Value.{bvmul}
use Rattle.wide.specs.declared.Wide.{Wide}
use Rattle.wide.specs.Number.{base, words, num}
use Rattle.wide.proofs.Words.{mod-is, Fit, num-lt}

-- two words of a sum or a product
pub record SumOf (B low high total : ℕ) : Type 0 where
  pub sum : low + B * high ≡ total

module _ (a b : ℕ) where
  abbrev H : ℕ
  H = 4294967296

  halves : (a / H * H + a % H) * (b / H * H + b % H) ≡ a * b
  halves = ap₂ ◌*◌ (div-add-mod' a H) (div-add-mod' b H)

  -- the four products of halves, put together
  pub product_is : (p m l : ℕ) → p ≡ a % H * (b % H) → m ≡ a % H * (b / H) + p / H → l ≡ a / H * (b % H) + m % H
      → p % H + l % H * H + base * (a / H * (b / H) + m / H + l / H) ≡ a * b
  product_is p m l hp hm hl = omega (arith, halves)

-- for any base: the columns of a product
module _ (B : ℕ) where
  abbrev Sum : ℕ → ℕ → ℕ → Type 0
  Sum low high total = SumOf B low high total

  column-one : (x1 y0 z0 s0 s1 t0 t1 : ℕ) → s0 + B * s1 ≡ x1 + y0 + 0 → t0 + B * t1 ≡ s0 + z0 + 0 → x1 + y0 + z0 ≡ t0 + B * (s1 + t1)
  column-one x1 y0 z0 s0 s1 t0 t1 es et = omega arith

  column-two : (e p0 q0 r0 s1 t1 u0 u1 v0 v1 w0 w1 g0 g1 : ℕ) → u0 + B * u1 ≡ e + s1 → v0 + B * v1 ≡ u0 + p0 + t1 → w0 + B * w1 ≡ v0 + q0 + 0
      → g0 + B * g1 ≡ w0 + r0 + 0
      → e + (s1 + t1) + p0 + q0 + r0 ≡ g0 + B * (u1 + v1 + w1 + g1)
  column-two e p0 q0 r0 s1 t1 u0 u1 v0 v1 w0 w1 g0 g1 eu ev ew eg = omega arith

  expand : (a0 a1 a2 b0 b1 b2 : ℕ)
      → (a0 + B * (a1 + B * a2)) * (b0 + B * (b1 + B * b2))
      ≡ a0 * b0 + B * (a0 * b1 + a1 * b0) + B * B * (a0 * b2 + a1 * b1 + a2 * b0) + B * B * B * (a1 * b2 + a2 * b1 + B * (a2 * b2))
  expand a0 a1 a2 b0 b1 b2 = omega arith

  columns : (A C D x0 x1 y z e f t0 g0 c1 c2 rest : ℕ) → x0 + B * x1 ≡ A → y + B * z ≡ C → e + B * f ≡ D → x1 + y ≡ t0 + B * c1 → z + c1 + e ≡ g0 + B * c2
      → x0 + B * (t0 + B * g0) + B * B * B * (f + c2 + rest) ≡ A + B * C + B * B * D + B * B * B * rest
  columns A C D x0 x1 y z e f t0 g0 c1 c2 rest ea ec ed e1 e2 =
      omega (arith, ap (λ (t : ℕ). B * t) ec, ap (λ (t : ℕ). B * (B * t)) ed, ap (λ (t : ℕ). B * t) e1, ap (λ (t : ℕ). B * (B * t)) e2)

  pub three-times : (a0 a1 a2 b0 b1 b2 : ℕ) {x0 x1 y0 y1 z0 z1 s0 s1 t0 t1 u0 u1 p0 p1 v0 v1 q0 q1 w0 w1 r0 r1 g0 g1 : ℕ}
      → Sum x0 x1 (a0 * b0)
      → Sum y0 y1 (a0 * b1)
      → Sum z0 z1 (a1 * b0)
      → Sum s0 s1 (x1 + y0 + 0)
      → Sum t0 t1 (s0 + z0 + 0)
      → Sum u0 u1 (y1 + z1 + s1)
      → Sum p0 p1 (a0 * b2)
      → Sum v0 v1 (u0 + p0 + t1)
      → Sum q0 q1 (a1 * b1)
      → Sum w0 w1 (v0 + q0 + 0)
      → Sum r0 r1 (a2 * b0)
      → Sum g0 g1 (w0 + r0 + 0)
      → x0 + B * (t0 + B * g0) + B * B * B * (p1 + q1 + r1 + (u1 + v1 + w1 + g1) + (a1 * b2 + a2 * b1 + B * (a2 * b2)))
      ≡ (a0 + B * (a1 + B * a2)) * (b0 + B * (b1 + B * b2))
  three-times a0 a1 a2 b0 b1 b2 {x0} {x1} {y0} {y1} {z0} {z1} {s0} {s1} {t0} {t1} {u0} {u1} {p0} {p1} {v0} {v1} {q0} {q1} {w0} {w1} {r0} {r1} {g0} {g1} ex ey ez es et eu ep ev eq ew er eg =
      columns (a0 * b0) (a0 * b1 + a1 * b0) (a0 * b2 + a1 * b1 + a2 * b0) x0 x1 (y0 + z0) (y1 + z1) (p0 + q0 + r0) (p1 + q1 + r1) t0 g0 (s1 + t1) (u1 + v1 + w1 + g1)
      (a1 * b2 + a2 * b1 + B * (a2 * b2)) ex.sum (omega (arith, ey.sum, ez.sum)) (omega (arith, ep.sum, eq.sum, er.sum))
      (omega (arith, column-one x1 y0 z0 s0 s1 t0 t1 es.sum et.sum))
      (omega (arith, column-two (y1 + z1) p0 q0 r0 s1 t1 u0 u1 v0 v1 w0 w1 g0 g1 eu.sum ev.sum ew.sum eg.sum))
      ∙ sym (expand a0 a1 a2 b0 b1 b2)

pub mul_is : (a b r : Wide) {x1 y0 y1 z0 z1 s0 s1 t1 u0 u1 p0 p1 v0 v1 q0 q1 w0 w1 r0 r1 g1 : ℕ} → Fit r
    → SumOf base r.low x1 (a.low * b.low)
    → SumOf base y0 y1 (a.low * b.high)
    → SumOf base z0 z1 (a.high * b.low)
    → SumOf base s0 s1 (x1 + y0 + 0)
    → SumOf base r.high t1 (s0 + z0 + 0)
    → SumOf base u0 u1 (y1 + z1 + s1)
    → SumOf base p0 p1 (a.low * b.top)
    → SumOf base v0 v1 (u0 + p0 + t1)
    → SumOf base q0 q1 (a.high * b.high)
    → SumOf base w0 w1 (v0 + q0 + 0)
    → SumOf base r0 r1 (a.top * b.low)
    → SumOf base r.top g1 (w0 + r0 + 0)
    → num r ≡ bvmul 192 (num a) (num b)
unfolding words bvmul
mul_is a b r f ex ey ez es et eu ep ev eq ew er eg =
    mod-is (2 ^ 192) _ _ _ (num-lt r f) (three-times base a.low a.high a.top b.low b.high b.top ex ey ez es et eu ep ev eq ew er eg)
