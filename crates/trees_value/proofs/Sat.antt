-- The saturating, halving, narrowing, doubling and mixed-sign families. Assumes nothing.
use mathlib.Core.Path.{◌≡◌, refl, ap, ap₂, ◌∙◌}
use mathlib.Core.Bool.{Bool, true, false, cond}
use Prim.Native.Nat.{ℕ, suc, ◌+◌, ◌-◌, ◌*◌, ◌^◌, ◌≤◌, ◌<◌}
use native.Mathlib.Omega.{arith}
use native.Mathlib.Nat.{mul-le-mul, mul-le-mul_left}
use lib.Pow.{pow_pos, pow_mono, pow-add, pow-lt}
use lib.IntN.{ℤ, pos, negsuc, neg_ℤ, nat_abs, ◌+ℤ◌, ◌-ℤ◌, ◌*ℤ◌, +ℤ_idl}
use lib.Signed.{lt_z}
use Rattle.terms.specs.Expr.{Expr, Const, Bv}
use Rattle.terms.specs.declared.BinOp.TheVariants.{Add, Sub}
use Rattle.neon.specs.Arm.{c_s, c_u, floor}
use Rattle.trees.specs.Lower.{extend}
use Rattle.trees.specs.Arith.{plus_if, joined, twice, shifted, exact_lane}
use Rattle.trees.specs.Trees.{saturating_lane, mixed_sign_add_lane, doubling_product, doubling_long_lane}
use Rattle.trees.specs.Arith as Arith
use Rattle.trees.specs.declared.SaturateTo.TheVariants.{Signed, Unsigned, SignedToUnsigned}
use Rattle.std.specs.declared.option.Option.TheVariants.{None, Some}
use Rattle.trees.specs.declared.SaturatingKind.TheVariants.{AddSub, Halving, Narrow, ShiftNarrow, DoublingMultiplyHigh, Unary}
use Rattle.trees_value.specs.Fits.{up, dn, FitsS, FitsU, Fits}
use Rattle.trees_value.proofs.Z.{sum, less, times, neg-up, neg-dn, ge-is}
use Rattle.trees_value.proofs.Wrap.{half}
use Rattle.trees_value.proofs.Is.{Is, by-const, is_eq, is-const, is-add, is-sub, is_mul, is-shl, is-ashr, is-extend, is-shift, is_cut, is-ite, says-slt}
use Rattle.trees_value.proofs.Clamp.{is-clamp_s, is-clamp_u, is-clamp_su, clamp-fits, floor-fits}

-- ---- the powers of two at n + 1 bits
pub record Next (n : ℕ) : Type 0 where
  pub top : 2 ^ (n + 1 - 1) ≡ 2 ^ n
  pub all : 2 ^ (n + 1) ≡ 2 * 2 ^ n
  pub bits : 2 ^ n ≡ 2 * 2 ^ (n - 1)
  pub some : 0 < 2 ^ (n - 1)

pub next : (n : ℕ) → 0 < n → Next n
next n h = record { top = ap (λ (k : ℕ). 2 ^ k) (omega arith); all = pow-add 2 n 1 ∙ omega arith; bits = half n h; some = pow_pos (n - 1) }

two-power : (n : ℕ) → 0 < n → 2 ^ (n + 2 - 1) ≡ 4 * 2 ^ (n - 1)
two-power n h = ap (λ (k : ℕ). 2 ^ k) (omega arith) ∙ pow-add 2 n 1 ∙ omega (arith, half n h)

zero-fits : (w : ℕ) → FitsS w (pos 0)
zero-fits w = record { low = omega arith; high = omega (arith, pow_pos (w - 1)) }

-- a value with a constant added, or not
abbrev pub plus : Bool → ℤ → ℕ → ℤ
plus true z c = z +ℤ pos c
plus false z c = z

-- a sum, or a difference if the flag is true
abbrev pub apply_z : Bool → ℤ → ℤ → ℤ
apply_z false x y = x +ℤ y
apply_z true x y = x -ℤ y

-- ---- what one bit more holds
module _ {n : ℕ} {x y : ℤ} (hn : 0 < n) where
  pub sum_s : FitsS n x → FitsS n y → FitsS (n + 1) (x +ℤ y)
  sum_s f g = record { low = omega (arith, sum x y, next n hn); high = omega (arith, sum x y, next n hn) }

  pub less_s : FitsS n x → FitsS n y → FitsS (n + 1) (x -ℤ y)
  less_s f g = record { low = omega (arith, less x y, next n hn); high = omega (arith, less x y, next n hn) }

  pub sum_u : FitsU n x → FitsU n y → FitsU (n + 1) (x +ℤ y)
  sum_u f g = record { low = omega (arith, sum x y, next n hn); high = omega (arith, sum x y, next n hn) }

  pub less_u : FitsU n x → FitsU n y → FitsS (n + 1) (x -ℤ y)
  less_u f g = record { low = omega (arith, less x y, next n hn); high = omega (arith, less x y, next n hn) }

  -- and two bits more, of a sum of mixed sign
  pub sum_su : FitsS n x → FitsU n y → FitsS (n + 2) (x +ℤ y)
  sum_su f g = record { low = omega (arith, two-power n hn, sum x y, half n hn); high = omega (arith, two-power n hn, sum x y, half n hn) }

  pub sum_us : FitsU n x → FitsS n y → FitsS (n + 2) (x +ℤ y)
  sum_us f g = record { low = omega (arith, two-power n hn, sum x y, half n hn); high = omega (arith, two-power n hn, sum x y, half n hn) }

-- and one added to the sum of two
sum1 : (s rounding : Bool) (n : ℕ) (x y : ℤ) → 0 < n → Fits s n x → Fits s n y → Fits s (n + 1) (plus rounding (x +ℤ y) 1)
sum1 true true n x y hn f g = record { low = omega (arith, sum x y, sum (x +ℤ y) (pos 1), next n hn); high = omega (arith, sum x y, sum (x +ℤ y) (pos 1), next n hn) }
sum1 false true n x y hn f g = record { low = omega (arith, sum x y, sum (x +ℤ y) (pos 1), next n hn); high = omega (arith, sum x y, sum (x +ℤ y) (pos 1), next n hn) }
sum1 true false n x y hn f g = sum_s hn f g
sum1 false false n x y hn f g = sum_u hn f g

plus-fits : (s rounding : Bool) (n c : ℕ) (x : ℤ) → 0 < n → c < 2 ^ (n - 1) → Fits s n x → Fits s (n + 1) (plus rounding x c)
plus-fits true true n c x hn h f = record { low = omega (arith, sum x (pos c), next n hn); high = omega (arith, sum x (pos c), next n hn) }
plus-fits false true n c x hn h f = record { low = omega (arith, sum x (pos c), next n hn); high = omega (arith, sum x (pos c), next n hn) }
plus-fits true false n c x hn h f = record { low = omega (arith, next n hn); high = omega (arith, next n hn) }
plus-fits false false n c x hn h f = record { low = omega (arith, next n hn); high = omega (arith, next n hn) }

-- a product of two signed numbers of n bits is at most 2 ^ (n - 1) squared
product-bound : (h : ℕ) (x y : ℤ) → dn x ≤ up x + h → up x < dn x + h → dn y ≤ up y + h → up y < dn y + h
    → (up (x *ℤ y) ≤ dn (x *ℤ y) + h * h) × (dn (x *ℤ y) ≤ up (x *ℤ y) + h * h)
product-bound h (pos a) (pos b) l u m v =
    (omega (arith, mul-le-mul {n₁ = a} {m₁ = b} {n₂ = h} {m₂ = h} (omega arith) (omega arith)), omega arith)
product-bound h (pos a) (negsuc b) l u m v =
    let k = mul-le-mul {n₁ = a} {m₁ = suc b} {n₂ = h} {m₂ = h} (omega arith) (omega arith) in
    (omega (arith, neg-up (pos (a * suc b)), neg-dn (pos (a * suc b))), omega (arith, k, neg-up (pos (a * suc b)), neg-dn (pos (a * suc b))))
product-bound h (negsuc a) (pos b) l u m v =
    let k = mul-le-mul {n₁ = suc a} {m₁ = b} {n₂ = h} {m₂ = h} (omega arith) (omega arith) in
    (omega (arith, neg-up (pos (suc a * b)), neg-dn (pos (suc a * b))), omega (arith, k, neg-up (pos (suc a * b)), neg-dn (pos (suc a * b))))
product-bound h (negsuc a) (negsuc b) l u m v =
    (omega (arith, mul-le-mul {n₁ = suc a} {m₁ = suc b} {n₂ = h} {m₂ = h} (omega arith) (omega arith)), omega arith)

-- doubled, it has room for half a unit at n * 2 + 1 bits
module _ (n : ℕ) (x y : ℤ) (hn : 0 < n) (f : FitsS n x) (g : FitsS n y) where
  high-power : 2 ^ (n * 2 + 1 - 1) ≡ 4 * (2 ^ (n - 1) * 2 ^ (n - 1))
  high-power = ap (λ (k : ℕ). 2 ^ k) (omega arith) ∙ pow-add 2 n n ∙ ap₂ ◌*◌ (half n hn) (half n hn) ∙ omega arith

  room : 2 ^ (n - 1) ≤ 2 ^ (n - 1) * 2 ^ (n - 1)
  room = omega (arith, mul-le-mul_left (2 ^ (n - 1)) (pow_pos (n - 1)))

  high_fits : (rounding : Bool) → FitsS (n * 2 + 1) (plus rounding (x *ℤ y *ℤ pos 2) (2 ^ (n - 1)))
  high_fits false =
      let k = product-bound (2 ^ (n - 1)) x y f.low f.high g.low g.high in
      let o : 0 < 2 ^ (n - 1) = pow_pos (n - 1) in
      record { low = omega (arith, high-power, room, times (x *ℤ y) (pos 2)); high = omega (arith, high-power, room, times (x *ℤ y) (pos 2)) }
  high_fits true =
      let k = product-bound (2 ^ (n - 1)) x y f.low f.high g.low g.high in
      let t = times (x *ℤ y) (pos 2) in
      let u = sum (x *ℤ y *ℤ pos 2) (pos (2 ^ (n - 1))) in
      let o : 0 < 2 ^ (n - 1) = pow_pos (n - 1) in
      record { low = omega (arith, high-power, room); high = omega (arith, high-power, room) }

  pub doubled_fits : FitsS (n * 2 + 1) (x *ℤ y *ℤ pos 2)
  doubled_fits = high_fits false

  pub floor-high : (rounding : Bool) → FitsS (n * 2 + 1) (floor (plus rounding (x *ℤ y *ℤ pos 2) (2 ^ (n - 1))) n)
  floor-high rounding = floor-fits true (n * 2 + 1) (plus rounding (x *ℤ y *ℤ pos 2) (2 ^ (n - 1))) (2 ^ n) (pow_pos n) (high_fits rounding)

-- ---- the families
module _ (r : ℕ → ℕ) where
  pub is-plus : (t : Bool) {v : Expr} {w : ℕ} {z : ℤ} (c : ℕ) → c < 2 ^ w → Is r v w z → Is r (plus_if t v (Const c w)) w (plus t z c)
  is-plus true {w = w} c h p = is-add r p (is-const r c w h)
  is-plus false c h p = p

  pub is-apply : (subtract : Bool) {a b : Expr} {w : ℕ} {x y : ℤ} → Is r a w x → Is r b w y → Is r (Bv (cond subtract Sub Add) a b) w (apply_z subtract x y)
  is-apply false p q = is-add r p q
  is-apply true p q = is-sub r p q

  -- two lanes of n bits, each read by its own sign
  pub is-joined : (subtract s t : Bool) {a b : Expr} {n w : ℕ} {x y : ℤ} → 0 < n → n ≤ w → Fits s n x → Fits t n y → Is r a n x → Is r b n y
      → Is r (joined (cond subtract Sub Add) a s b t w) w (apply_z subtract x y)
  is-joined subtract s t hn h f g p q = is-apply subtract (is-extend r s hn h f p) (is-extend r t hn h g q)

  -- two lanes of n bits, read signed or unsigned
  module _ (s : Bool) (a b : Expr) (n : ℕ) (x y : ℤ) (hn : 0 < n) (f : Fits s n x) (g : Fits s n y) (p : Is r a n x) (q : Is r b n y) where
    one_more : n ≤ n + 1
    one_more = omega arith

    pub is-halving : (rounding : Bool) → Is r (saturating_lane (Halving rounding) a b n s) n (floor (plus rounding (x +ℤ y) 1) 1)
    unfolding Arith.saturating_lane
    is-halving rounding =
        is_cut r hn one_more
        (is-shift r s (omega arith) (sum1 s rounding n x y hn f g)
        (is-plus rounding 1 (omega (arith, next n hn)) (is-joined false s s hn one_more f g p q))
        (by-const r 1 (n + 1)))

  pub apply-fits : (subtract : Bool) {n : ℕ} {x y : ℤ} → 0 < n → FitsS n x → FitsS n y → FitsS (n + 1) (apply_z subtract x y)
  apply-fits false hn f g = sum_s hn f g
  apply-fits true hn f g = less_s hn f g

  -- two signed lanes
  module _ (a b : Expr) (n : ℕ) (x y : ℤ) (hn : 0 < n) (f : FitsS n x) (g : FitsS n y) (p : Is r a n x) (q : Is r b n y) where
    pub is-sqaddsub : (subtract : Bool) → Is r (saturating_lane (AddSub (cond subtract Sub Add) Signed) a b n true) n (c_s n (apply_z subtract x y))
    unfolding Arith.saturating_lane
    is-sqaddsub subtract = is-clamp_s r hn (omega arith) (apply-fits subtract hn f g) (is-joined subtract true true hn (omega arith) f g p q)

    pub is-doubled : (w : ℕ) → n ≤ w → Is r (twice a b w) w (x *ℤ y *ℤ pos 2)
    is-doubled w h = is-shl r (is_mul r (is-extend r true hn h f p) (is-extend r true hn h g q)) (by-const r 1 w)

    pub is-high : (rounding : Bool) → Is r (exact_lane (DoublingMultiplyHigh rounding) a b n true) (n * 2 + 1) (floor (plus rounding (x *ℤ y *ℤ pos 2) (2 ^ (n - 1))) n)
    is-high rounding =
        is-ashr r (omega arith) (high_fits n x y hn f g rounding)
        (is-plus rounding (2 ^ (n - 1)) small (is-doubled (n * 2 + 1) (omega arith))) (by-const r n (n * 2 + 1))
      where
        small : 2 ^ (n - 1) < 2 ^ (n * 2 + 1)
        small = omega (arith, half n hn, pow_mono {i = n} {j = n * 2 + 1} (omega arith), pow_pos (n - 1))

    pub is-dmulh : (rounding : Bool) → Is r (saturating_lane (DoublingMultiplyHigh rounding) a b n true) n (c_s n (floor (plus rounding (x *ℤ y *ℤ pos 2) (2 ^ (n - 1))) n))
    unfolding Arith.saturating_lane
    is-dmulh rounding = is-clamp_s r hn (omega arith) (floor-high n x y hn f g rounding) (is-high rounding)

  -- two unsigned lanes
  module _ (a b : Expr) (n : ℕ) (x y : ℤ) (hn : 0 < n) (f : FitsU n x) (g : FitsU n y) (p : Is r a n x) (q : Is r b n y) where
    pub is-uqadd : Is r (saturating_lane (AddSub Add Unsigned) a b n false) n (c_u n (x +ℤ y))
    unfolding Arith.saturating_lane
    is-uqadd = is-clamp_u r hn (omega arith) (sum_u hn f g) (is-joined false false false hn (omega arith) f g p q)

    pub is-uqsub : Is r (saturating_lane (AddSub Sub SignedToUnsigned) a b n false) n (c_u n (x -ℤ y))
    unfolding Arith.saturating_lane
    is-uqsub = is-clamp_su r hn (omega arith) (less_u hn f g) (is-joined true false false hn (omega arith) f g p q)

  -- ---- one signed lane: the negative and the absolute value
  module _ (a b : Expr) (n : ℕ) (x : ℤ) (hn : 0 < n) (f : FitsS n x) (p : Is r a n x) where
    wide-x : Is r (extend a (n + 1) true) (n + 1) x
    wide-x = is-extend r true hn (omega arith) f p

    pub is-minus : Is r (exact_lane (Unary true) a b n true) (n + 1) (neg_ℤ x)
    is-minus = is_eq r (+ℤ_idl (neg_ℤ x)) (is-sub r (is-const r 0 (n + 1) (pow_pos (n + 1))) wide-x)

    pub minus-fits : FitsS (n + 1) (neg_ℤ x)
    minus-fits = record { low = omega (arith, neg-up x, neg-dn x, next n hn); high = omega (arith, neg-up x, neg-dn x, next n hn) }

    x_fits : FitsS (n + 1) x
    x_fits = record { low = omega (arith, next n hn); high = omega (arith, next n hn) }

    abs_is : (x : ℤ) → cond (lt_z x (pos 0)) (neg_ℤ x) x ≡ pos (nat_abs x)
    abs_is (pos m) = rw (ge-is (pos m) (pos 0) (omega arith))
    abs_is (negsuc m) = refl

    abs-of : (x : ℤ) → FitsS (n + 1) x → FitsS (n + 1) (neg_ℤ x) → FitsS (n + 1) (pos (nat_abs x))
    abs-of (pos m) f g = f
    abs-of (negsuc m) f g = g

    pub abs-fits : FitsS (n + 1) (pos (nat_abs x))
    abs-fits = abs-of x x_fits minus-fits

    pub is-abs : Is r (exact_lane (Unary false) a b n true) (n + 1) (pos (nat_abs x))
    is-abs =
        is_eq r (abs_is x)
        (is-ite r (says-slt r (omega arith) x_fits (zero-fits (n + 1)) wide-x (is-const r 0 (n + 1) (pow_pos (n + 1)))) is-minus wide-x)

    pub is-sqneg : Is r (saturating_lane (Unary true) a b n true) n (c_s n (neg_ℤ x))
    unfolding Arith.saturating_lane
    is-sqneg = is-clamp_s r hn (omega arith) minus-fits is-minus

    pub is-sqabs : Is r (saturating_lane (Unary false) a b n true) n (c_s n (pos (nat_abs x)))
    unfolding Arith.saturating_lane
    is-sqabs = is-clamp_s r hn (omega arith) abs-fits is-abs

  -- ---- narrowing: the source has n * 2 bits
  module _ (a b : Expr) (n : ℕ) (x : ℤ) (hn : 0 < n) (p : Is r a (n * 2) x) where
    pub is-sqxtn : FitsS (n * 2) x → Is r (saturating_lane (Narrow Signed) a b n true) n (c_s n x)
    unfolding Arith.saturating_lane
    is-sqxtn f = is-clamp_s r hn (omega arith) f p

    pub is-uqxtn : FitsU (n * 2) x → Is r (saturating_lane (Narrow Unsigned) a b n false) n (c_u n x)
    unfolding Arith.saturating_lane
    is-uqxtn f = is-clamp_u r hn (omega arith) f p

    pub is-sqxtun : FitsS (n * 2) x → Is r (saturating_lane (Narrow SignedToUnsigned) a b n true) n (c_u n x)
    unfolding Arith.saturating_lane
    is-sqxtun f = is-clamp_su r hn (omega arith) f p

    module _ (s rounding : Bool) (i : ℕ) (f : Fits s (n * 2) x) (hi : 0 < i) (h : i ≤ n) where
      unit-small : 2 ^ (i - 1) < 2 ^ (n * 2 - 1)
      unit-small = pow-lt (omega arith)

      sum_fits : Fits s (n * 2 + 1) (plus rounding x (2 ^ (i - 1)))
      sum_fits = plus-fits s rounding (n * 2) (2 ^ (i - 1)) x (omega arith) unit-small f

      pub narrow-fits : Fits s (n * 2 + 1) (floor (plus rounding x (2 ^ (i - 1))) i)
      narrow-fits = floor-fits s (n * 2 + 1) (plus rounding x (2 ^ (i - 1))) (2 ^ i) (pow_pos i) sum_fits

      pub is-shifted : Is r (shifted s rounding (extend a (n * 2 + 1) s) (2 ^ (i - 1)) i (n * 2 + 1)) (n * 2 + 1) (floor (plus rounding x (2 ^ (i - 1))) i)
      is-shifted =
          is-shift r s (omega arith) sum_fits
          (is-plus rounding (2 ^ (i - 1)) (omega (arith, unit-small, next (n * 2) (omega arith))) (is-extend r s (omega arith) (omega arith) f p))
          (by-const r i (n * 2 + 1))

    pub is-shrn : (s rounding : Bool) (i : ℕ) → Fits s (n * 2) x → 0 < i → i ≤ n
        → Is r (saturating_lane (ShiftNarrow i rounding None) a b n s) n (floor (plus rounding x (2 ^ (i - 1))) i)
    unfolding Arith.saturating_lane
    is-shrn s rounding i f hi h = is_cut r hn (omega arith) (is-shifted s rounding i f hi h)

    pub is-sqshrn : (rounding : Bool) (i : ℕ) → FitsS (n * 2) x → 0 < i → i ≤ n
        → Is r (saturating_lane (ShiftNarrow i rounding (Some Signed)) a b n true) n (c_s n (floor (plus rounding x (2 ^ (i - 1))) i))
    unfolding Arith.saturating_lane
    is-sqshrn rounding i f hi h = is-clamp_s r hn (omega arith) (narrow-fits true rounding i f hi h) (is-shifted true rounding i f hi h)

    pub is-uqshrn : (rounding : Bool) (i : ℕ) → FitsU (n * 2) x → 0 < i → i ≤ n
        → Is r (saturating_lane (ShiftNarrow i rounding (Some Unsigned)) a b n false) n (c_u n (floor (plus rounding x (2 ^ (i - 1))) i))
    unfolding Arith.saturating_lane
    is-uqshrn rounding i f hi h = is-clamp_u r hn (omega arith) (narrow-fits false rounding i f hi h) (is-shifted false rounding i f hi h)

    pub is-sqshrun : (rounding : Bool) (i : ℕ) → FitsS (n * 2) x → 0 < i → i ≤ n
        → Is r (saturating_lane (ShiftNarrow i rounding (Some SignedToUnsigned)) a b n true) n (c_u n (floor (plus rounding x (2 ^ (i - 1))) i))
    unfolding Arith.saturating_lane
    is-sqshrun rounding i f hi h = is-clamp_su r hn (omega arith) (narrow-fits true rounding i f hi h) (is-shifted true rounding i f hi h)

  -- ---- doubling, long: the source lanes have h bits, the result h * 2
  module _ (a b : Expr) (h : ℕ) (x y : ℤ) (hh : 0 < h) (f : FitsS h x) (g : FitsS h y) (p : Is r a h x) (q : Is r b h y) where
    pub is-dmull : Is r (doubling_product a b (h * 2)) (h * 2) (c_s (h * 2) (x *ℤ y *ℤ pos 2))
    unfolding Arith.doubling_product
    is-dmull = is-clamp_s r (omega arith) (omega arith) (doubled_fits h x y hh f g) (is-doubled a b h x y hh f g p q (h * 2 + 1) (omega arith))

    pub is-dmlal : (subtract : Bool) (d : Expr) (z : ℤ) → FitsS (h * 2) z → Is r d (h * 2) z
        → Is r (doubling_long_lane (Some (cond subtract Sub Add)) d a b (h * 2)) (h * 2) (c_s (h * 2) (apply_z subtract z (c_s (h * 2) (x *ℤ y *ℤ pos 2))))
    unfolding Arith.doubling_long_lane
    is-dmlal subtract d z k o =
        is-clamp_s r (omega arith) (omega arith) (apply-fits subtract (omega arith) k (clamp-fits (h * 2) (x *ℤ y *ℤ pos 2)))
        (is-joined subtract true true (omega arith) (omega arith) k (clamp-fits (h * 2) (x *ℤ y *ℤ pos 2)) o is-dmull)

  -- ---- the mixed signs, at n + 2 bits
  module _ (d a : Expr) (n : ℕ) (z x : ℤ) (hn : 0 < n) (o : Is r d n z) (p : Is r a n x) where
    pub is-suqadd : FitsS n z → FitsU n x → Is r (mixed_sign_add_lane true d a n) n (c_s n (z +ℤ x))
    unfolding Arith.mixed_sign_add_lane
    is-suqadd f g = is-clamp_s r hn (omega arith) (sum_su hn f g) (is-joined false true false hn (omega arith) f g o p)

    pub is-usqadd : FitsU n z → FitsS n x → Is r (mixed_sign_add_lane false d a n) n (c_u n (z +ℤ x))
    unfolding Arith.mixed_sign_add_lane
    is-usqadd f g = is-clamp_su r hn (omega arith) (sum_us hn f g) (is-joined false false true hn (omega arith) f g o p)
