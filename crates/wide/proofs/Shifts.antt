-- Shifts of three words. Assumes nothing.
use Rattle.std.proofs.Common.{◌≡◌, ℕ, ◌+◌, ◌-◌, ◌*◌, ◌/◌, ◌%◌, ◌^◌, ◌<◌, ◌≤◌, sym, ap, ◌∙◌, ap₂, mod-lt, mod-eq_of_lt, div-add-mod', mul-one, arith, pow_pos, pow-add, shr_lt}
use lib.Arith.{digits_div}
use lib.Bits.{bit_or, or_shifted}
use Rattle.terms.specs.Value.{bvshl}
use Rattle.wide.specs.declared.Wide.{Wide}
use Rattle.wide.specs.Number.{base, words, num}
use Rattle.wide.proofs.Words.{mod-is, Fit, num-lt}
use Rattle.wide.proofs.Digits.{mod_same, scale-mod, whole, high-shift}

pub funnel-is : (high low k : ℕ) → k < 64 → low < base
    → bit_or (high * 2 ^ k % 18446744073709551616) (low / 2 ^ (64 - k)) ≡ high % 2 ^ (64 - k) * 2 ^ k + low / 2 ^ (64 - k)
funnel-is high low k h l =
    ap (λ (t : ℕ). bit_or t (low / 2 ^ (64 - k)))
    (ap (λ (t : ℕ). high * 2 ^ k % t) (whole k (omega arith)) ∙ scale-mod high (2 ^ (64 - k)) (2 ^ k) (pow_pos (64 - k)) (pow_pos k))
    ∙ or_shifted (high % 2 ^ (64 - k)) k (low / 2 ^ (64 - k)) (shr_lt k (64 - k) small)
  where
    small : low < 2 ^ (k + (64 - k))
    small = Prim.rw (ap (λ (t : ℕ). 2 ^ t) {x = k + (64 - k)} {y = 64} (omega arith)) l

-- for any split of the base
module _ (J K : ℕ) (a b c : ℕ) where
  left : a % J * K + J * K * (b % J * K + a / J + J * K * (c % J * K + b / J)) + J * K * (J * K) * (J * K) * (c / J) ≡ (a + J * K * (b + J * K * c)) * K
  left =
      omega (arith, ap (λ (t : ℕ). t * K) (div-add-mod' a J), ap (λ (t : ℕ). J * K * (t * K)) (div-add-mod' b J), ap (λ (t : ℕ). J * K * (J * K) * (t * K)) (div-add-mod' c J))

  right : (b % K * J + a / K + J * K * (c % K * J + b / K + J * K * (c / K))) * K + a % K ≡ a + J * K * (b + J * K * c)
  right =
      omega (arith, div-add-mod' a K, ap (λ (t : ℕ). J * K * t) (div-add-mod' b K), ap (λ (t : ℕ). J * K * (J * K) * t) (div-add-mod' c K))

module _ (a : Wide) (f : Fit a) (k : ℕ) (h : k < 64) where
  abbrev J : ℕ
  J = 2 ^ (64 - k)

  abbrev K : ℕ
  K = 2 ^ k

  B : base ≡ J * K
  B = whole k (omega arith)

  left_at : (B : ℕ) → B ≡ J * K
      → a.low % J * K + B * (a.high % J * K + a.low / J + B * (a.top % J * K + a.high / J)) + B * B * B * (a.top / J)
      ≡ (a.low + B * (a.high + B * a.top)) * K
  left_at B e = rw e (left J K a.low a.high a.top)

  right-at : (B : ℕ) → B ≡ J * K
      → (a.low + B * (a.high + B * a.top)) ≡ (a.high % K * J + a.low / K + B * (a.top % K * J + a.high / K + B * (a.top / K))) * K + a.low % K
  right-at B e = rw e (sym (right J K a.low a.high a.top))

  low-left : a.low * K % base ≡ a.low % J * K
  low-left = ap (λ (t : ℕ). a.low * K % t) B ∙ scale-mod a.low J K (pow_pos (64 - k)) (pow_pos k)

  pub shl_is : {x y z : ℕ} → Fit (record { low = x; high = y; top = z }) → x ≡ a.low * K % base → y ≡ a.high % J * K + a.low / J → z ≡ a.top % J * K + a.high / J
      → words x y z ≡ bvshl 192 (num a) k
  unfolding words bvshl
  shl_is {x} {y} {z} g p q r =
      mod-is (2 ^ 192) _ (a.top / J) (x + base * (y + base * z)) (unfold words in num-lt (record { low = x; high = y; top = z }) g)
      (ap₂ (λ (s t : ℕ). s + base * (t + base * z) + 2 ^ 192 * (a.top / J)) (p ∙ low-left) q
      ∙ ap (λ (t : ℕ). a.low % J * K + base * (a.high % J * K + a.low / J + base * t) + 2 ^ 192 * (a.top / J)) r ∙ left_at base B)

  back : 64 - (64 - k) ≡ k
  back = omega arith

  pub shr_is : {x y z : ℕ} → x ≡ a.high % 2 ^ (64 - (64 - k)) * J + a.low / 2 ^ (64 - (64 - k))
      → y ≡ a.top % 2 ^ (64 - (64 - k)) * J + a.high / 2 ^ (64 - (64 - k))
      → z ≡ a.top / K
      → words x y z ≡ num a / K
  unfolding words
  shr_is {x} {y} {z} p q r =
      rw (p, q, r, back) (sym (ap (λ (t : ℕ). t / K) (right-at base B) ∙ digits_div _ (mod-lt a.low (pow_pos k))))

-- ---- by whole words
again : (x y M c s k : ℕ) → 0 < M → y * 2 ^ s ≡ x + M * c → s ≤ k → x * 2 ^ (k - s) % M ≡ y * 2 ^ k % M
again x y M c s k h e l =
    sym (mod_same M (x * 2 ^ (k - s)) (c * 2 ^ (k - s)) h)
    ∙ ap (λ (t : ℕ). t % M) (omega (arith, ap (λ (t : ℕ). t * 2 ^ (k - s)) e, ap (λ (t : ℕ). y * t) power))
  where
    power : 2 ^ k ≡ 2 ^ s * 2 ^ (k - s)
    power = ap (λ (t : ℕ). 2 ^ t) {x = k} {y = s + (k - s)} (omega arith) ∙ pow-add 2 s (k - s)

up_one : (B a b c : ℕ) → (a + B * (b + B * c)) * B ≡ 0 + B * (a + B * b) + B * B * B * c
up_one B a b c = omega arith

up-two : (B a b c : ℕ) → (a + B * (b + B * c)) * (B * B) ≡ 0 + B * (0 + B * a) + B * B * B * (b + B * c)
up-two B a b c = omega arith

module _ (a : Wide) (f : Fit a) (k : ℕ) where
  pub no-left : k ≡ 0 → num a ≡ bvshl 192 (num a) k
  unfolding bvshl
  no-left e = rw e (sym (ap (λ (t : ℕ). t % 2 ^ 192) (mul-one (num a)) ∙ mod-eq_of_lt (num-lt a f)))

  pub word-left : 64 ≤ k → bvshl 192 (words 0 a.low a.high) (k - 64) ≡ bvshl 192 (num a) k
  unfolding words bvshl
  word-left h = again (0 + base * (a.low + base * a.high)) (num a) (2 ^ 192) a.top 64 k (pow_pos 192) (up_one base a.low a.high a.top) h

  pub words_left : 128 ≤ k → bvshl 192 (words 0 0 a.low) (k - 128) ≡ bvshl 192 (num a) k
  unfolding words bvshl
  words_left h =
      again (0 + base * (0 + base * a.low)) (num a) (2 ^ 192) (a.high + base * a.top) 128 k (pow_pos 192) (up-two base a.low a.high a.top) h

  pub word-right : 64 ≤ k → words a.high a.top 0 / 2 ^ (k - 64) ≡ num a / 2 ^ k
  unfolding words
  word-right h =
      ap (λ (t : ℕ). (a.high + base * t) / 2 ^ (k - 64)) {x = a.top + base * 0} {y = a.top} (omega arith)
      ∙ sym (ap (λ (t : ℕ). num a / 2 ^ t) {x = k} {y = 64 + (k - 64)} (omega arith) ∙ high-shift a.low (a.high + base * a.top) (k - 64) f.low)

  pub words_right : 128 ≤ k → words a.top 0 0 / 2 ^ (k - 128) ≡ num a / 2 ^ k
  unfolding words
  words_right h =
      ap (λ (t : ℕ). t / 2 ^ (k - 128)) {x = a.top + base * (0 + base * 0)} {y = a.top} (omega arith)
      ∙ sym (ap (λ (t : ℕ). num a / 2 ^ t) {x = k} {y = 64 + (64 + (k - 128))} (omega arith) ∙ high-shift a.low (a.high + base * a.top) (64 + (k - 128)) f.low
      ∙ high-shift a.high a.top (k - 128) f.high)
