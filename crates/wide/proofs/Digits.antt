-- A word below a number: quotients, remainders, and the bits of each. Assumes nothing.
use Rattle.std.proofs.Common.{◌≡◌, ℕ, ◌+◌, ◌-◌, ◌*◌, ◌/◌, ◌%◌, ◌^◌, ◌<◌, ◌≤◌, sym, ap, ◌∙◌, mod-lt, div-add-mod', arith, pow_pos, pow-add, shr-shr}
use lib.Arith.{digits_div, digits_mod}
use lib.Bits.{bit_and, bit_or, bit_xor, and_block, or_block, xor_block}
use lib.Pow.{mod-pow-add}
use Rattle.wide.specs.declared.Wide.{Wide}
use Rattle.wide.specs.Number.{base, words, num}
use Rattle.wide.proofs.Words.{mod-is, Fit}

-- a multiple of m is dropped
pub mod_same : (m z c : ℕ) → 0 < m → (z + m * c) % m ≡ z % m
mod_same m z c h = sym (mod-is m (z + m * c) (z / m + c) (z % m) (mod-lt z h) (omega (arith, div-add-mod' z m)))

pub scale-mod : (h j k : ℕ) → 0 < j → 0 < k → h * k % (j * k) ≡ h % j * k
scale-mod h j k hj hk =
    sym (mod-is (j * k) (h * k) (h / j) (h % j * k) less (omega (arith, ap (λ (t : ℕ). t * k) (div-add-mod' h j))))
  where
    less : h % j * k < j * k
    less = omega (arith, lib.Arith.digits_lt {q = h % j} {m = j} {r = 0} {c = k} (mod-lt h hj) hk)

pub whole : (k : ℕ) → k ≤ 64 → base ≡ 2 ^ (64 - k) * 2 ^ k
whole k h = ap (λ (t : ℕ). 2 ^ t) {x = 64} {y = 64 - k + k} (omega arith) ∙ pow-add 2 (64 - k) k

module _ (x h : ℕ) where
  pub low-cut : (w : ℕ) → w ≤ 64 → (x + base * h) % 2 ^ w ≡ x % 2 ^ w
  low-cut w l =
      ap (λ (t : ℕ). (x + t * h) % 2 ^ w) (whole w l) ∙ ap (λ (t : ℕ). t % 2 ^ w) swap ∙ mod_same (2 ^ w) x (2 ^ (64 - w) * h) (pow_pos w)
    where
      swap : x + 2 ^ (64 - w) * 2 ^ w * h ≡ x + 2 ^ w * (2 ^ (64 - w) * h)
      swap = omega arith

  pub upper : x < base → (x + base * h) / 2 ^ 64 ≡ h
  upper l = ap (λ (t : ℕ). t / 2 ^ 64) {x = x + base * h} {y = h * base + x} (omega arith) ∙ digits_div h l

  pub lower : x < base → (x + base * h) % 2 ^ 64 ≡ x
  lower l = ap (λ (t : ℕ). t % 2 ^ 64) {x = x + base * h} {y = h * base + x} (omega arith) ∙ digits_mod h l

  pub high_cut : (v : ℕ) → x < base → (x + base * h) % 2 ^ (v + 64) ≡ x + base * (h % 2 ^ v)
  high_cut v l = mod-pow-add (x + base * h) v 64 ∙ rw (upper l, lower l) (omega arith)

  pub high-shift : (v : ℕ) → x < base → (x + base * h) / 2 ^ (64 + v) ≡ h / 2 ^ v
  high-shift v l = sym (shr-shr (x + base * h) 64 v) ∙ ap (λ (t : ℕ). t / 2 ^ v) (upper l)

-- ---- the cuts
module _ (a : Wide) (f : Fit a) (w : ℕ) where
  pub cut-one : {x : ℕ} → w ≤ 64 → x ≡ a.low % 2 ^ w → words x 0 0 ≡ num a % 2 ^ w
  unfolding words
  cut-one h e = rw e (omega (arith, low-cut a.low (a.high + base * a.top) w h))

  pub cut-two : {x : ℕ} → 64 ≤ w → w ≤ 128 → x ≡ a.high % 2 ^ (w - 64) → words a.low x 0 ≡ num a % 2 ^ w
  unfolding words
  cut-two {x} h l e =
      sym (ap (λ (t : ℕ). (a.low + base * (a.high + base * a.top)) % 2 ^ t) {x = w} {y = w - 64 + 64} (omega arith)
      ∙ high_cut a.low (a.high + base * a.top) (w - 64) f.low
      ∙ ap (λ (t : ℕ). a.low + base * t) (low-cut a.high a.top (w - 64) (omega arith) ∙ sym e ∙ omega arith))

  pub cut-three : {x : ℕ} → 128 ≤ w → w ≤ 192 → x ≡ a.top % 2 ^ (w - 128) → words a.low a.high x ≡ num a % 2 ^ w
  unfolding words
  cut-three {x} h l e =
      sym (ap (λ (t : ℕ). (a.low + base * (a.high + base * a.top)) % 2 ^ t) {x = w} {y = w - 128 + 64 + 64} (omega arith)
      ∙ high_cut a.low (a.high + base * a.top) (w - 128 + 64) f.low
      ∙ ap (λ (t : ℕ). a.low + base * t) (high_cut a.high a.top (w - 128) f.high ∙ ap (λ (t : ℕ). a.high + base * t) (sym e)))

-- ---- bit by bit
module _ (op : ℕ → ℕ → ℕ) (law : (k a b r s : ℕ) → r < 2 ^ k → s < 2 ^ k → op (a * 2 ^ k + r) (b * 2 ^ k + s) ≡ op a b * 2 ^ k + op r s) where
  two : (x y h k : ℕ) → x < base → y < base → op (x + base * h) (y + base * k) ≡ op x y + base * op h k
  two x y h k l m =
      ap (λ (t : ℕ). op t (y + base * k)) {x = x + base * h} {y = h * base + x} (omega arith)
      ∙ ap (λ (t : ℕ). op (h * base + x) t) {x = y + base * k} {y = k * base + y} (omega arith) ∙ law 64 h k x y l m ∙ omega arith

  bitwise : (a b : Wide) → Fit a → Fit b → words (op a.low b.low) (op a.high b.high) (op a.top b.top) ≡ op (num a) (num b)
  unfolding words
  bitwise a b f g =
      sym (two a.low b.low (a.high + base * a.top) (b.high + base * b.top) f.low g.low
      ∙ ap (λ (t : ℕ). op a.low b.low + base * t) (two a.high b.high a.top b.top f.high g.high))

pub and_is : (a b : Wide) → Fit a → Fit b → words (bit_and a.low b.low) (bit_and a.high b.high) (bit_and a.top b.top) ≡ bit_and (num a) (num b)
and_is = bitwise bit_and and_block

pub or_is : (a b : Wide) → Fit a → Fit b → words (bit_or a.low b.low) (bit_or a.high b.high) (bit_or a.top b.top) ≡ bit_or (num a) (num b)
or_is = bitwise bit_or or_block

pub xor_is : (a b : Wide) → Fit a → Fit b → words (bit_xor a.low b.low) (bit_xor a.high b.high) (bit_xor a.top b.top) ≡ bit_xor (num a) (num b)
xor_is = bitwise bit_xor xor_block
