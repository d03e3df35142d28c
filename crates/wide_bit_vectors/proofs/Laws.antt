-- The bit-vector operations at w bits, from those at 192. Assumes nothing.
use mathlib.Core.Path.{◌≡◌, refl, sym, ap, ◌∙◌}
use Prim.Native.Nat.{ℕ, zero, suc, ◌+◌, ◌-◌, ◌*◌, ◌/◌, ◌%◌, ◌^◌, ◌≤◌, ◌<◌}
use native.Mathlib.Nat.{mod-lt, mod-eq_of_lt, div-eq_of_lt, lt_of_lt_of_le}
use native.Mathlib.Omega.{arith}
use borrow.Author.Tests.{ne_eqb}
use lib.Pow.{pow_pos, pow-add, pow_mono, mod-mod-pow, not_mod, high_ones}
use Rattle.terms.specs.Value.{bvadd, bvneg, bvsub, bvmul, bvshl, bvlshr, bvashr, bvnot, bvsext, msb}
use Rattle.wide.specs.declared.Wide.{Wide}
use Rattle.wide.specs.Number.{base, words, num}
use Rattle.wide.proofs.Words.{mod-is, Fit}
use Rattle.wide.proofs.Digits.{mod_same}

split : (w : ℕ) → w ≤ 192 → 192 - w + w ≡ 192
split w h = omega arith

twice : (n w : ℕ) → w ≤ 192 → n % 2 ^ 192 % 2 ^ w ≡ n % 2 ^ w
twice n w h = ap (λ (t : ℕ). n % 2 ^ t % 2 ^ w) (sym (split w h)) ∙ mod-mod-pow n (192 - w) w

self_mod : (m : ℕ) → 0 < m → (m - 0) % m ≡ 0
self_mod m h = sym (mod-is m (m - 0) 1 0 h (omega arith))

less-at : (M m j s t : ℕ) → M ≡ m * suc j → t < m → (s + (M - t) % M) % m ≡ (s + (m - t) % m) % m
less-at M m j s zero e l = rw (self_mod M (omega arith), self_mod m l)
less-at M m j s (suc t) e l =
    let p : (M - suc t) % M ≡ M - suc t = mod-eq_of_lt (omega arith) in
    let q : (m - suc t) % m ≡ m - suc t = mod-eq_of_lt (omega arith) in
    ap (λ (x : ℕ). (s + x) % m) p ∙ ap (λ (x : ℕ). x % m) {x = s + (M - suc t)} {y = s + (m - suc t) + m * j} (omega arith)
    ∙ mod_same m (s + (m - suc t)) j (omega arith) ∙ ap (λ (x : ℕ). (s + x) % m) (sym q)

power : (w : ℕ) → w ≤ 192 → 2 ^ 192 ≡ 2 ^ w * suc (2 ^ (192 - w) - 1)
power w h =
    ap (λ (t : ℕ). 2 ^ t) {x = 192} {y = w + (192 - w)} (omega arith) ∙ pow-add 2 w (192 - w)
    ∙ ap (λ (t : ℕ). 2 ^ w * t) (sym (lib.Pow.suc_ones (192 - w)))

module _ (s t w : ℕ) (h : w ≤ 192) where
  pub add_at : bvadd 192 s t % 2 ^ w ≡ bvadd w s t
  unfolding bvadd
  add_at = twice (s + t) w h

  pub sub_at : t < 2 ^ w → bvsub 192 s t % 2 ^ w ≡ bvsub w s t
  unfolding bvsub bvadd bvneg
  sub_at l = twice (s + (2 ^ 192 - t) % 2 ^ 192) w h ∙ less-at (2 ^ 192) (2 ^ w) (2 ^ (192 - w) - 1) s t (power w h) l

  pub mul_at : bvmul 192 s t % 2 ^ w ≡ bvmul w s t
  unfolding bvmul
  mul_at = twice (s * t) w h

  pub shl-at : bvshl 192 s t % 2 ^ w ≡ bvshl w s t
  unfolding bvshl
  shl-at = twice (s * 2 ^ t) w h

  pub shl_none : w ≤ t → 0 ≡ bvshl w s t
  unfolding bvshl
  shl_none l =
      mod-is (2 ^ w) (s * 2 ^ t) (s * 2 ^ (t - w)) 0 (pow_pos w)
      (omega (arith, ap (λ (k : ℕ). s * k) (ap (λ (k : ℕ). 2 ^ k) {x = t} {y = t - w + w} (omega arith) ∙ pow-add 2 (t - w) w)))

  pub lshr-at : s < 2 ^ w → s / 2 ^ t ≡ bvlshr w s t
  unfolding bvlshr
  lshr-at l = sym (mod-eq_of_lt (omega (arith, lib.Pow.shr_le s t)))

  pub lshr-none : s < 2 ^ w → w ≤ t → 0 ≡ bvlshr w s t
  unfolding bvlshr
  lshr-none l k =
      sym (ap (λ (x : ℕ). x % 2 ^ w) (div-eq_of_lt {n = s} {m = 2 ^ t} (lt_of_lt_of_le l (pow_mono k))) ∙ mod-eq_of_lt (pow_pos w))

  pub not_at : s < 2 ^ w → ((2 ^ 192 - 1) - s) % 2 ^ w ≡ bvnot w s
  unfolding bvnot
  not_at l = ap (λ (k : ℕ). ((2 ^ k - 1) - s) % 2 ^ w) (sym (split w h)) ∙ not_mod (192 - w) w l

  pub not-lt : bvnot w s < 2 ^ w
  unfolding bvnot
  not-lt = lib.Pow.ones_sub-lt w s

  pub lshr-lt : bvlshr w s t < 2 ^ w
  unfolding bvlshr
  lshr-lt = mod-lt (s / 2 ^ t) (pow_pos w)

-- the words inverted
inverted : (B a b c : ℕ) → a < B → b < B → c < B
    → (B - 1 - a) + B * ((B - 1 - b) + B * (B - 1 - c)) + (a + B * (b + B * c)) + 1 ≡ B * B * B
inverted B a b c ha hb hc =
    let p : B - 1 - a + a + 1 ≡ B = omega arith in
    let q : B - 1 - b + b + 1 ≡ B = omega arith in
    let r : B - 1 - c + c + 1 ≡ B = omega arith in
    omega (arith, ap (λ (t : ℕ). B * t) q, ap (λ (t : ℕ). B * (B * t)) r)

minus : (x y m : ℕ) → x + y + 1 ≡ m → x ≡ (m - 1) - y
minus x y m e = omega arith

pub not-words : (a : Wide) → Fit a → words (18446744073709551615 - a.low) (18446744073709551615 - a.high) (18446744073709551615 - a.top) ≡ (2 ^ 192 - 1) - num a
unfolding words
not-words a f = minus _ _ (2 ^ 192) (inverted base a.low a.high a.top f.low f.high f.top)

-- the lowest bit
even : (x h : ℕ) → (x + base * h) % 2 ≡ x % 2
even x h = omega arith

pub low_bit : (a : Wide) → a.low % 2 ≡ num a % 2
unfolding words
low_bit a = sym (even a.low (a.high + base * a.top))

pub msb-is : (w s : ℕ) (v : Wide) → num v ≡ s / 2 ^ (w - 1) → v.low % 2 ≡ msb w s
unfolding msb
msb-is w s v e = low_bit v ∙ ap (λ (t : ℕ). t % 2) e

-- a number below w is one word
one_word : (x y w : ℕ) → w ≤ 192 → x + base * y < w → x ≡ x + base * y
one_word x y w h l = omega arith

pub low-is : (t : Wide) (w : ℕ) → w ≤ 192 → num t < w → t.low ≡ num t
unfolding words
low-is t w h l = one_word t.low (t.high + base * t.top) w h l

pub zero_is : words 0 0 0 ≡ 0
unfolding words
zero_is = refl

-- ---- signs
pub ashr-plain : (w s t : ℕ) → msb w s ≡ 0 → bvlshr w s t ≡ bvashr w s t
unfolding bvashr
ashr-plain w s t e = rw e

pub ashr-signed : (w s t : ℕ) → 0 < msb w s → bvnot w (bvlshr w (bvnot w s) t) ≡ bvashr w s t
unfolding bvashr
ashr-signed w s t h = rw (ne_eqb (msb w s) 0 (omega arith))

pub sext-plain : (m w s : ℕ) → msb m s ≡ 0 → s ≡ bvsext m w s
unfolding bvsext
sext-plain m w s e = rw e (omega arith)

pub sext-signed : (m w s : ℕ) → m ≤ w → s < 2 ^ m → 0 < msb m s → bvnot w (bvnot m s) ≡ bvsext m w s
unfolding bvsext bvnot
sext-signed m w s h l k =
    let one : msb m s ≡ 1 = unfold msb in omega (arith, k, mod-lt (s / 2 ^ (m - 1)) {m = 2} (omega arith)) in
    let e : 2 ^ w - 2 ^ m ≡ (2 ^ (w - m) - 1) * 2 ^ m = ap (λ (t : ℕ). 2 ^ t - 2 ^ m) {x = w} {y = w - m + m} (omega arith) ∙ high_ones (w - m) m in
    rw one (omega (arith, e, pow_mono h, pow_pos m))

pub not-small : (m w s : ℕ) → m ≤ w → bvnot m s < 2 ^ w
unfolding bvnot
not-small m w s h = omega (arith, lib.Pow.ones_sub-lt m s, pow_mono h)

pub concat-is : (s t w : ℕ) → s * 2 ^ w + t < 2 ^ 192 → bvadd 192 (bvshl 192 s w) t ≡ s * 2 ^ w + t
unfolding bvadd bvshl
concat-is s t w h = ap (λ (x : ℕ). (x + t) % 2 ^ 192) (mod-eq_of_lt (lower (s * 2 ^ w) t (2 ^ 192) h)) ∙ mod-eq_of_lt h
  where
    lower : (x y m : ℕ) → x + y < m → x < m
    lower x y m h = omega arith
