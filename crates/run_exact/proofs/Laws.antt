-- Exact integers in three words, and lanes clamped from them. Assumes nothing.
use mathlib.Core.Path.{◌≡◌, refl, sym, ap, ap₂, ◌∙◌, subst}
use mathlib.Core.Bool.{Bool, true, false, cond}
use Prim.Native.Nat.{ℕ, suc, ◌+◌, ◌-◌, ◌*◌, ◌%◌, ◌^◌, ◌≤◌, ◌<◌}
use native.Mathlib.Omega.{arith}
use native.Mathlib.Nat.{lt_of_lt_of_le, one-mul, mod-lt}
use borrow.Author.Tests.{lt-ltb, le-ltb}
use lib.Pow.{pow_pos, pow_mono, pow-lt}
use lib.IntN.{ℤ, pos, negsuc, neg_ℤ, nat_abs, ◌+ℤ◌, ◌-ℤ◌, ◌*ℤ◌, +ℤ_idl}
use lib.Signed.{lt_z}
use Rattle.terms.specs.Value.{bvadd, bvsub, bvmul, bvshl, bvashr, bvslt}
use Rattle.neon.specs.Arm.{wrap, S, clamp_z, byte, scale, floor, round}
use Rattle.wide.specs.declared.Wide.{Wide}
use Rattle.wide.specs.Number.{base, words, num}
use Rattle.wide.proofs.Words.{num-lt}
use Rattle.wide.proofs.Digits.{low-cut}
use Rattle.saturation.specs.Saturates.{outside}
use Rattle.saturation.specs.Family.{right_z, turn_z, join_z}
use Rattle.trees_value.specs.Fits.{up, dn, FitsS}
use Rattle.trees_value.proofs.Z.{less, neg-up, neg-dn, ext, ge-is}
use Rattle.trees_value.proofs.Wrap.{half, wrap-is}
use Rattle.trees_value.proofs.Bv.{wrap-pos, add_is, sub_is, mul_is, shl_is, ashr-is, slt-is, cut-is}
use Rattle.trees_value.proofs.Clamp.{S-fits, floor-fits}
use Rattle.trees_value.proofs.Sat.{sum_s, less_s, doubled_fits}
use Rattle.trees_value.proofs.Register.{wider, scaled_fits, rounded-fits}
use Rattle.terms.specs.declared.BinOp.{BinOp}
use Rattle.terms.specs.declared.BinOp.TheVariants.{Add, Sub, Mul, And, Or, Xor, Shl, LShr, AShr}
use Rattle.run_exact.specs.Exact.{Held, Answers, is_sub}

-- ---- words that stand for an integer
pub fitting : {w u : ℕ} {v : Wide} {z : ℤ} → w ≤ u → Held w v z → Held u v z
fitting {w} {u} {v} {z} h p = record { stands = p.stands; fits = wider w u z h p.fits }

pub held-as : {w : ℕ} {v : Wide} {x y : ℤ} → x ≡ y → Held w v x → Held w v y
held-as {w} {v} e p = subst (Held w v) e p

word_fits : (a : ℕ) → a < base → FitsS 65 (pos a)
word_fits a h = record { low = omega arith; high = omega arith }

pub unsigned_is : (a : ℕ) → a < base → Held 65 (record { low = a; high = 0; top = 0 }) (pos a)
unfolding words
unsigned_is a h = record { stands = omega arith ∙ sym (wrap-pos 192 a (lt_of_lt_of_le h (pow_mono {i = 64} {j = 192} (omega arith)))); fits = word_fits a h }

S-low : (n a : ℕ) → a < 2 ^ (n - 1) → S n a ≡ pos a
unfolding S
S-low n a h = rw (lt-ltb a (2 ^ (n - 1)) h)

S-high : (n a : ℕ) → 2 ^ (n - 1) ≤ a → S n a ≡ pos a -ℤ pos (2 ^ n)
unfolding S
S-high n a h = rw (le-ltb a (2 ^ (n - 1)) h)

pub signed_low : (n a : ℕ) → 0 < n → a < base → a < 2 ^ n → a < 2 ^ (n - 1) → Held n (record { low = a; high = 0; top = 0 }) (S n a)
signed_low n a hn h k l = record { stands = (unsigned_is a h).stands ∙ ap (wrap 192) (sym (S-low n a l)); fits = S-fits n a hn k }

filled : (B a N : ℕ) → N ≤ B → 0 < N → a + (B - 1 - (N - 1)) + B * (B - 1 + B * (B - 1)) + N ≡ a + B * B * B
filled B a N h l =
    let p : B - 1 + 1 ≡ B = omega arith in
    let q : a + (B - 1 - (N - 1)) + N ≡ a + B = omega arith in
    omega (arith, q, ap (λ (t : ℕ). B * t) p, ap (λ (t : ℕ). B * (B * t)) p)

moved : (v d u a N M : ℕ) → v + N ≡ a + M → u + N ≡ d + a → v + d + 0 * M ≡ u + 1 * M
moved v d u a N M e f = omega arith

pub signed_high : (n a x : ℕ) → 0 < n → n ≤ 64 → a < 2 ^ n → x < base → x ≡ a + (18446744073709551615 - (2 ^ n - 1)) → 2 ^ (n - 1) ≤ a
    → Held n (record { low = x; high = 18446744073709551615; top = 18446744073709551615 }) (S n a)
unfolding words
signed_high n a x hn h la l e k = record {
  stands = rw (S-high n a k)
      (wrap-is 192 (pos a -ℤ pos (2 ^ n)) _ 0 1
      (unfold words in num-lt (record { low = x; high = 18446744073709551615; top = 18446744073709551615 }) (record { low = l; high = omega arith; top = omega arith }))
      (moved _ (dn (pos a -ℤ pos (2 ^ n))) (up (pos a -ℤ pos (2 ^ n))) a (2 ^ n) (2 ^ 192)
      (ap (λ (t : ℕ). t + base * (18446744073709551615 + base * 18446744073709551615) + 2 ^ n) e ∙ filled base a (2 ^ n) (pow_mono {j = 64} h) (pow_pos n))
      (omega (arith, less (pos a) (pos (2 ^ n))))));
  fits = S-fits n a hn la;
}

-- ---- the low bits
pub keep-is : {n b w : ℕ} {v : Wide} {z : ℤ} → n ≤ 64 → b ≡ v.low % 2 ^ n → Held w v z → b ≡ wrap n z
unfolding words
keep-is {n} {b} {w} {v} {z} h e p =
    e ∙ sym (low-cut v.low (v.high + base * v.top) n h) ∙ ap (λ (t : ℕ). t % 2 ^ n) p.stands ∙ cut-is 192 n z (omega arith)

-- ---- the clamp
pub less-is : {s : Bool} {a b : Wide} {x y : ℤ} → s ≡ bvslt 192 (num a) (num b) → Held 192 a x → Held 192 b y → s ≡ lt_z x y
less-is {s} {a} {b} {x} {y} e p q = e ∙ ap₂ (bvslt 192) p.stands q.stands ∙ slt-is 192 x y (omega arith) p.fits q.fits

module _ (n : ℕ) (l h z : ℤ) {b : ℕ} where
  pub clamp-low : lt_z z l ≡ true → b ≡ wrap n l → Answers (wrap n (clamp_z l h z)) (outside l h z) b true
  unfolding clamp_z outside
  clamp-low e k = record { bits_are = rw e k; saturated_is = rw e }

  pub clamp-high : lt_z z l ≡ false → lt_z h z ≡ true → b ≡ wrap n h → Answers (wrap n (clamp_z l h z)) (outside l h z) b true
  unfolding clamp_z outside
  clamp-high e d k = record { bits_are = rw (e, d) k; saturated_is = rw (e, d) }

  pub clamp-none : lt_z z l ≡ false → lt_z h z ≡ false → b ≡ wrap n z → Answers (wrap n (clamp_z l h z)) (outside l h z) b false
  unfolding clamp_z outside
  clamp-none e d k = record { bits_are = rw (e, d) k; saturated_is = rw (e, d) }

lowest : (n : ℕ) → 0 < n → S n (2 ^ (n - 1)) ≡ neg_ℤ (pos (2 ^ (n - 1)))
lowest n h =
    S-high n (2 ^ (n - 1)) (omega arith)
    ∙ ext (pos (2 ^ (n - 1)) -ℤ pos (2 ^ n)) (neg_ℤ (pos (2 ^ (n - 1))))
    (omega (arith, less (pos (2 ^ (n - 1))) (pos (2 ^ n)), half n h, neg-up (pos (2 ^ (n - 1))), neg-dn (pos (2 ^ (n - 1)))))

pub half_lt : (n : ℕ) → 0 < n → 2 ^ (n - 1) < 2 ^ n
half_lt n h = pow-lt (omega arith)

pub low_held : {n k : ℕ} {v : Wide} → 0 < n → n ≤ 64 → k ≡ 2 ^ (n - 1) → Held n v (S n k) → Held 192 v (neg_ℤ (pos (2 ^ (n - 1))))
low_held {n} {k} {v} hn h e p = fitting (omega arith) (held-as (ap (S n) e ∙ lowest n hn) p)

pub word_held : {k m : ℕ} {v : Wide} → k ≡ m → Held 65 v (pos k) → Held 192 v (pos m)
word_held {k} {m} {v} e p = fitting (omega arith) (held-as (ap pos e) p)

-- ---- sums and products
pub sum-held : {a b v : Wide} → num v ≡ bvadd 192 (num a) (num b) → (w : ℕ) (x y : ℤ) → 0 < w → Held w a x → Held w b y → Held (w + 1) v (x +ℤ y)
sum-held e w x y hw p q = record { stands = e ∙ ap₂ (bvadd 192) p.stands q.stands ∙ add_is 192 x y; fits = sum_s hw p.fits q.fits }

pub less-held : {a b v : Wide} → num v ≡ bvsub 192 (num a) (num b) → (w : ℕ) (x y : ℤ) → 0 < w → Held w a x → Held w b y → Held (w + 1) v (x -ℤ y)
less-held e w x y hw p q = record { stands = e ∙ ap₂ (bvsub 192) p.stands q.stands ∙ sub_is 192 x y; fits = less_s hw p.fits q.fits }

pub negative-held : {a b v : Wide} → Held 65 a (pos 0) → num v ≡ bvsub 192 (num a) (num b) → (w : ℕ) (z : ℤ) → 0 < w → Held w b z → Held (w + 1) v (neg_ℤ z)
negative-held p e w z hw q =
    held-as (+ℤ_idl (neg_ℤ z))
    (record {
      stands = e ∙ ap₂ (bvsub 192) p.stands q.stands ∙ sub_is 192 (pos 0) z;
      fits = less_s {x = pos 0} hw (record { low = omega arith; high = omega (arith, pow_pos (w - 1)) }) q.fits;
    })

pub doubled-held : {n : ℕ} {x y : ℤ} {a b v : Wide} {p : ℕ} → 0 < n → n ≤ 64 → Held n a x → Held n b y → p ≡ bvmul 192 (num a) (num b) → num v ≡ bvshl 192 p 1
    → Held 129 v (x *ℤ y *ℤ pos 2)
doubled-held {n} {x} {y} hn h f g e d = record {
  stands = d ∙ ap (λ (t : ℕ). bvshl 192 t 1) (e ∙ ap₂ (bvmul 192) f.stands g.stands ∙ mul_is 192 x y) ∙ shl_is 192 (x *ℤ y) 1;
  fits = wider (n * 2 + 1) 129 _ (omega arith) (doubled_fits n x y hn f.fits g.fits);
}

-- ---- shifts
pub scaled-held : (k : ℕ) {a v : Wide} → num v ≡ bvshl 192 (num a) k → (w : ℕ) (z : ℤ) → 0 < w → Held w a z → Held (w + k) v (scale z k)
scaled-held k e w z hw p = record { stands = e ∙ ap (λ (t : ℕ). bvshl 192 t k) p.stands ∙ shl_is 192 z k; fits = scaled_fits w k z hw p.fits }

power-fits : (w k : ℕ) → k < w - 1 → FitsS w (pos (2 ^ k))
power-fits w k h = record { low = omega arith; high = omega (arith, pow-lt {i = k} {j = w - 1} h) }

word-is : {k : ℕ} {t : Wide} → k < base → Held 65 t (pos k) → num t ≡ k
word-is {k} h p = p.stands ∙ wrap-pos 192 k (lt_of_lt_of_le h (pow_mono {i = 64} {j = 192} (omega arith)))

pub floor-held : {k : ℕ} {a t v : Wide} → k < base → Held 65 t (pos k) → num v ≡ bvashr 192 (num a) (num t) → (w : ℕ) (z : ℤ) → w ≤ 191 → Held w a z → Held w v (floor z k)
floor-held {k} hk q e w z hw p = record {
  stands = e ∙ ap₂ (bvashr 192) p.stands (word-is hk q) ∙ ashr-is 192 z k (omega arith) (wider w 192 z (omega arith) p.fits);
  fits = floor-fits true w z (2 ^ k) (pow_pos k) p.fits;
}

pub round-held : {k u s : ℕ} {a o t v : Wide} → 0 < k → k ≤ 128 → Held 65 o (pos 1) → u ≡ bvshl 192 (num o) (k - 1) → s ≡ bvadd 192 (num a) u
    → Held 65 t (pos k) → num v ≡ bvashr 192 s (num t) → (w : ℕ) (z : ℤ) → w ≤ 191 → Held w a z → Held w v (round z k)
round-held {k} {u} hk h po eu es q e w z hw p = record {
  stands = e ∙ ap₂ (bvashr 192) (es ∙ ap₂ (bvadd 192) p.stands unit ∙ add_is 192 z (pos (2 ^ (k - 1)))) (word-is (omega arith) q)
      ∙ ashr-is 192 (z +ℤ pos (2 ^ (k - 1))) k (omega arith) (sum_s {n = 191} (omega arith) (wider w 191 z hw p.fits) (power-fits 191 (k - 1) (omega arith)));
  fits = subst (λ (t : ℕ). FitsS w (round z t)) {x = suc (k - 1)} {y = k} (omega arith) (rounded-fits true w (k - 1) z p.fits);
}
  where
    unit : u ≡ wrap 192 (pos (2 ^ (k - 1)))
    unit = eu ∙ ap (λ (t : ℕ). bvshl 192 t (k - 1)) po.stands ∙ shl_is 192 (pos 1) (k - 1) ∙ ap (λ (t : ℕ). wrap 192 (pos t)) (one-mul (2 ^ (k - 1)))

-- the amount of a shift by a register, as code has it
byte_left : (b : ℕ) → b % 256 < 128 → byte b ≡ pos (b % 256)
byte_left b h = S-low 8 (b % 256) h

byte-right : (b : ℕ) → 128 ≤ b % 256 → byte b ≡ negsuc (256 - b % 256 - 1)
byte-right b h =
    let lt : b % 256 < 256 = mod-lt b (omega arith) in
    S-high 8 (b % 256) h ∙ ext (pos (b % 256) -ℤ pos 256) (negsuc (256 - b % 256 - 1)) (omega (arith, less (pos (b % 256)) (pos 256)))

pub turn-left : (rounding : Bool) (z : ℤ) (b : ℕ) {v : Wide} → b % 256 < 128 → Held (65 + b % 256) v (scale z (b % 256)) → Held 192 v (turn_z rounding z (byte b))
turn-left rounding z b h p = rw (byte_left b h) (fitting (omega arith) (held-as (go rounding) p))
  where
    go : (t : Bool) → scale z (b % 256) ≡ turn_z t z (pos (b % 256))
    go true = refl
    go false = refl

pub turn-right : (rounding : Bool) (z : ℤ) (b : ℕ) {v : Wide} → 128 ≤ b % 256 → Held 65 v (right_z rounding z (256 - b % 256)) → Held 192 v (turn_z rounding z (byte b))
turn-right rounding z b h p = rw (byte-right b h) (fitting (omega arith) (held-as (go rounding) p))
  where
    same : 256 - b % 256 ≡ suc (256 - b % 256 - 1)
    same = let lt : b % 256 < 256 = mod-lt b (omega arith) in omega arith

    go : (t : Bool) → right_z t z (256 - b % 256) ≡ turn_z t z (negsuc (256 - b % 256 - 1))
    go true = ap (round z) same
    go false = ap (floor z) same

-- ---- the magnitude
abs-low : (z : ℤ) → lt_z z (pos 0) ≡ true → neg_ℤ z ≡ pos (nat_abs z)
abs-low (pos m) e = absurd (let f : lt_z (pos m) (pos 0) ≡ false = ge-is (pos m) (pos 0) (omega arith) in let z : ◌≡◌ {A = ℕ} 0 1 = ap (λ (t : Bool). cond t 0 1) (sym e ∙ f) in omega arith)
abs-low (negsuc m) e = refl

abs-high : (z : ℤ) → lt_z z (pos 0) ≡ false → z ≡ pos (nat_abs z)
abs-high (pos m) e = refl
abs-high (negsuc m) e = absurd (let z : ◌≡◌ {A = ℕ} 0 1 = ap (λ (t : Bool). cond t 1 0) (sym e) in omega arith)

pub magnitude-low : {w : ℕ} {v : Wide} (z : ℤ) → lt_z z (pos 0) ≡ true → Held w v (neg_ℤ z) → Held w v (pos (nat_abs z))
magnitude-low z e p = held-as (abs-low z e) p

pub magnitude-high : {w : ℕ} {v : Wide} (z : ℤ) → lt_z z (pos 0) ≡ false → Held w v z → Held (w + 1) v (pos (nat_abs z))
magnitude-high z e p = fitting (omega arith) (held-as (abs-high z e) p)

-- ---- the sum or the difference
pub joined-less : (op : BinOp) → is_sub op ≡ true → {w : ℕ} {v : Wide} (x y : ℤ) → Held w v (x -ℤ y) → Held w v (join_z op x y)
joined-less Sub e x y p = p
joined-less Add e x y p = absurd (let z : ◌≡◌ {A = ℕ} 0 1 = ap (λ (t : Bool). cond t 1 0) e in omega arith)
joined-less Mul e x y p = absurd (let z : ◌≡◌ {A = ℕ} 0 1 = ap (λ (t : Bool). cond t 1 0) e in omega arith)
joined-less And e x y p = absurd (let z : ◌≡◌ {A = ℕ} 0 1 = ap (λ (t : Bool). cond t 1 0) e in omega arith)
joined-less Or e x y p = absurd (let z : ◌≡◌ {A = ℕ} 0 1 = ap (λ (t : Bool). cond t 1 0) e in omega arith)
joined-less Xor e x y p = absurd (let z : ◌≡◌ {A = ℕ} 0 1 = ap (λ (t : Bool). cond t 1 0) e in omega arith)
joined-less Shl e x y p = absurd (let z : ◌≡◌ {A = ℕ} 0 1 = ap (λ (t : Bool). cond t 1 0) e in omega arith)
joined-less LShr e x y p = absurd (let z : ◌≡◌ {A = ℕ} 0 1 = ap (λ (t : Bool). cond t 1 0) e in omega arith)
joined-less AShr e x y p = absurd (let z : ◌≡◌ {A = ℕ} 0 1 = ap (λ (t : Bool). cond t 1 0) e in omega arith)

pub joined-sum : (op : BinOp) → is_sub op ≡ false → {w : ℕ} {v : Wide} (x y : ℤ) → Held w v (x +ℤ y) → Held w v (join_z op x y)
joined-sum Sub e x y p = absurd (let z : ◌≡◌ {A = ℕ} 0 1 = ap (λ (t : Bool). cond t 0 1) e in omega arith)
joined-sum Add e x y p = p
joined-sum Mul e x y p = p
joined-sum And e x y p = p
joined-sum Or e x y p = p
joined-sum Xor e x y p = p
joined-sum Shl e x y p = p
joined-sum LShr e x y p = p
joined-sum AShr e x y p = p
