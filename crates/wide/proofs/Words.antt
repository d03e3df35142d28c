-- Three words as one number: sums and differences. Assumes nothing.
use Rattle.std.proofs.Common.{◌≡◌, ℕ, zero, suc, ◌+◌, ◌-◌, ◌*◌, ◌%◌, ◌^◌, ◌<◌, ◌≤◌, sym, ap, ◌∙◌, mod-eq_of_lt, arith}
use lib.Arith.{digits_lt, digits_mod}
use Rattle.terms.specs.Value.{bvadd, bvneg, bvsub}
use Rattle.wide.specs.declared.Wide.{Wide}
use Rattle.wide.specs.Number.{base, words, num}

-- r is s modulo m
pub mod-is : (m s c r : ℕ) → r < m → r + m * c ≡ s → r ≡ s % m
mod-is m s c r h e = sym (ap (λ (t : ℕ). t % m) (sym e ∙ omega arith) ∙ digits_mod c h)

module _ (B : ℕ) where
  three : ℕ → ℕ → ℕ → ℕ
  three a b c = a + B * (b + B * c)

  three-lt : (a b c : ℕ) → a < B → b < B → c < B → a + B * (b + B * c) < B * B * B
  three-lt a b c ha hb hc =
      let h : b + B * c < B * B = omega (arith, digits_lt hc hb) in
      omega (arith, digits_lt {q = b + B * c} {m = B * B} {r = a} {c = B} h ha)

  three-sum : (a0 a1 a2 b0 b1 b2 r0 r1 r2 c1 c2 c3 : ℕ) → r0 + B * c1 ≡ a0 + b0 + 0 → r1 + B * c2 ≡ a1 + b1 + c1 → r2 + B * c3 ≡ a2 + b2 + c2
      → r0 + B * (r1 + B * r2) + B * B * B * c3 ≡ a0 + B * (a1 + B * a2) + (b0 + B * (b1 + B * b2))
  three-sum a0 a1 a2 b0 b1 b2 r0 r1 r2 c1 c2 c3 e0 e1 e2 =
      omega (arith, ap (λ (t : ℕ). B * t) e1, ap (λ (t : ℕ). B * (B * t)) e2)

  three-less : (a0 a1 a2 b0 b1 b2 r0 r1 r2 c1 c2 c3 : ℕ) → r0 + b0 + 0 ≡ a0 + B * c1 → r1 + b1 + c1 ≡ a1 + B * c2 → r2 + b2 + c2 ≡ a2 + B * c3
      → r0 + B * (r1 + B * r2) + (b0 + B * (b1 + B * b2)) ≡ a0 + B * (a1 + B * a2) + B * B * B * c3
  three-less a0 a1 a2 b0 b1 b2 r0 r1 r2 c1 c2 c3 e0 e1 e2 =
      omega (arith, ap (λ (t : ℕ). B * t) e1, ap (λ (t : ℕ). B * (B * t)) e2)

-- the words of a number are words
pub record Fit (v : Wide) : Type 0 where
  pub low : v.low < base
  pub high : v.high < base
  pub top : v.top < base

pub num-lt : (v : Wide) → Fit v → num v < 2 ^ 192
unfolding words
num-lt v f = three-lt base v.low v.high v.top f.low f.high f.top

pub sum_is : (a b r : Wide) (c1 c2 c3 : ℕ) → Fit r
    → r.low + base * c1 ≡ a.low + b.low + 0
    → r.high + base * c2 ≡ a.high + b.high + c1
    → r.top + base * c3 ≡ a.top + b.top + c2
    → num r ≡ bvadd 192 (num a) (num b)
unfolding words bvadd
sum_is a b r c1 c2 c3 f e0 e1 e2 =
    mod-is (2 ^ 192) _ c3 _ (num-lt r f) (three-sum base a.low a.high a.top b.low b.high b.top r.low r.high r.top c1 c2 c3 e0 e1 e2)

-- a difference: what the subtrahend brings back to the minuend
less-mod : (m s t r c : ℕ) → r < m → t < m → c ≤ 1 → r + t ≡ s + m * c → r ≡ (s + (m - t) % m) % m
less-mod m s zero r zero hr ht hc e = mod-is m (s + (m - 0) % m) 0 r hr (omega (arith, mod-is m (m - 0) 1 0 ht (omega arith)))
less-mod m s zero r (suc zero) hr ht hc e = absurd (omega arith)
less-mod m s (suc t) r zero hr ht hc e =
    let same : (m - suc t) % m ≡ m - suc t = mod-eq_of_lt (omega arith) in
    mod-is m (s + (m - suc t) % m) 1 r hr (omega arith)
less-mod m s (suc t) r (suc zero) hr ht hc e =
    let same : (m - suc t) % m ≡ m - suc t = mod-eq_of_lt (omega arith) in
    mod-is m (s + (m - suc t) % m) 0 r hr (omega arith)
less-mod m s t r (suc (suc c)) hr ht hc e = absurd (omega arith)

pub less-is : (a b r : Wide) (c1 c2 c3 : ℕ) → Fit r → Fit b → c3 ≤ 1
    → r.low + b.low + 0 ≡ a.low + base * c1
    → r.high + b.high + c1 ≡ a.high + base * c2
    → r.top + b.top + c2 ≡ a.top + base * c3
    → num r ≡ bvsub 192 (num a) (num b)
unfolding words bvsub bvadd bvneg
less-is a b r c1 c2 c3 f g hc e0 e1 e2 =
    less-mod (2 ^ 192) _ _ _ c3 (num-lt r f) (num-lt b g) hc
    (three-less base a.low a.high a.top b.low b.high b.top r.low r.high r.top c1 c2 c3 e0 e1 e2)
