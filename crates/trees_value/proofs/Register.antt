-- The shifts by a register, and by an immediate. Assumes nothing.
use mathlib.Core.Path.{◌≡◌, refl, sym, ap, ◌∙◌, subst}
use mathlib.Core.Bool.{Bool, true, false, cond}
use Prim.Native.Nat.{ℕ, suc, ◌+◌, ◌-◌, ◌*◌, ◌%◌, ◌^◌, ◌≤◌, ◌<◌}
use native.Mathlib.Omega.{arith}
use native.Mathlib.Nat.{mod-lt, mod-eq_of_lt, mul-le-mul_right, mul-le-mul_left, zero-add}
use borrow.Author.Tests.{ltb-true, ltb-false}
use lib.Dec.{ltb}
use lib.Pow.{pow_pos, pow_mono, pow-add}
use lib.IntN.{ℤ, pos, negsuc, ◌+ℤ◌}
use Rattle.facts.proofs.Numbers.{below}
use Rattle.terms.specs.Expr.{Expr, Const, Bv, Compare, Ite, SignExtend, width}
use Rattle.terms.specs.declared.BinOp.TheVariants.{Sub}
use Rattle.terms.specs.declared.CmpOp.TheVariants.{Slt}
use Rattle.neon.specs.Arm.{wrap, S, c_u, floor, round, scale, byte, shift_z, round_z}
use Rattle.trees.specs.Simd.{extract_collapsing}
use Rattle.trees.specs.Arith.{shift_by, scaled, saturating_shift_left, register_shift_max, left_by}
use Rattle.trees.specs.Trees.{shift_right, left_immediate, signed_amount, shift_lane}
use Rattle.trees.specs.Arith as Arith
use Rattle.trees.specs.declared.SaturateTo.TheVariants.{SignedToUnsigned}
use Rattle.std.specs.declared.option.Option.TheVariants.{None, Some}
use Rattle.trees.specs.declared.ShiftKind.TheVariants.{Register}
use Rattle.trees_value.specs.Fits.{up, dn, FitsS, Fits}
use Rattle.trees_value.proofs.Z.{sum, Floor, floored, ge-is}
use Rattle.trees_value.proofs.Wrap.{half}
use Rattle.trees_value.proofs.Is.{Is, Says, By, by-const, by-is, is_eq, is-const, is-sub, is-shl, is-shift, is-sext, is-then, is-else, says-slt}
use Rattle.trees_value.proofs.Lanes.{is-low}
use Rattle.trees_value.proofs.Clamp.{S-fits, is-reading, clamp_to, clamp-in, floor-fits, is-clamp_su}
use Rattle.trees_value.proofs.Shift.{is-round, is-saturating, product}

-- a term of n bits that is y, cut to a shorter width: y's low bits
is-mod : (r : ℕ → ℕ) {t : Expr} {n y : ℕ} → Is r t n (pos y) → Is r t n (pos (y % 2 ^ n))
unfolding wrap
is-mod r {n = n} {y = y} p = record { wide = p.wide; val = p.val ∙ sym (mod-eq_of_lt (mod-lt y (pow_pos n))) }

-- ---- the amount
pub byte_fits : (b : ℕ) → FitsS 8 (byte b)
byte_fits b = S-fits 8 (b % 2 ^ 8) (omega arith) (mod-lt b (pow_pos 8))

pub wider : (n w : ℕ) (z : ℤ) → n ≤ w → FitsS n z → FitsS w z
wider n w z h f = record { low = omega (arith, m); high = omega (arith, m) }
  where
    m : 2 ^ (n - 1) ≤ 2 ^ (w - 1)
    m = pow_mono (omega arith)

-- a shift to the left has room in as many bits more
pub scaled_fits : (n k : ℕ) (x : ℤ) → 0 < n → FitsS n x → FitsS (n + k) (scale x k)
scaled_fits n k x hn f = record {
  low = omega (arith, product x (2 ^ k), mul-le-mul_right (2 ^ k) f.low, whole);
  high = omega (arith, product x (2 ^ k), mul-le-mul_right (2 ^ k) f.high, whole, pow_pos k);
}
  where
    whole : 2 ^ (n + k - 1) ≡ 2 ^ (n - 1) * 2 ^ k
    whole = ap (λ (t : ℕ). 2 ^ t) {x = n + k - 1} {y = n - 1 + k} (omega arith) ∙ pow-add 2 (n - 1) k

pub is-amount : (r : ℕ → ℕ) (raw : Expr) (n y : ℕ) → 8 ≤ n → y < 2 ^ n → Is r raw n (pos y) → Is r (signed_amount raw n) n (byte y)
is-amount r raw n y h l p = go (ltb 8 n) refl
  where
    go : (t : Bool) → ltb 8 n ≡ t → Is r (cond t (SignExtend (extract_collapsing raw 7 0) n) raw) n (byte y)
    go true e =
        is-sext r (omega arith) h (byte_fits y)
        (is-reading r true (mod-lt y (pow_pos 8)) (is-mod r (is-low r {n = 8} (omega arith) h p)))
    go false e =
        let same : 8 ≡ n = omega (arith, ltb-false 8 n e) in
        let small : y < 2 ^ 8 = subst (λ (m : ℕ). y < 2 ^ m) (sym same) l in
        rw (mod-eq_of_lt small) (subst (λ (m : ℕ). Is r raw m (S 8 y)) same (is-reading r true small (subst (λ (m : ℕ). Is r raw m (pos y)) (sym same) p)))

-- ---- a quotient with half a unit added stays in the range of the dividend, from -l to h
module _ (l h m : ℕ) (hm : 0 < m) (hh : 0 < h) (x q : ℤ) (low : dn x ≤ up x + l) (high : up x < dn x + h) (f : Floor q (x +ℤ pos m) (2 * m)) where
  lm : l ≤ l * m
  lm = omega (arith, mul-le-mul_left l hm)

  hm-le : h ≤ h * m
  hm-le = omega (arith, mul-le-mul_left h hm)

  mh-le : m ≤ h * m
  mh-le = omega (arith, mul-le-mul_right m hh)

  pub round-low : dn q ≤ up q + l
  round-low = go (ltb (up q + l) (dn q)) refl
    where
      go : (t : Bool) → ltb (up q + l) (dn q) ≡ t → dn q ≤ up q + l
      go true e = absurd (omega (arith, sum x (pos m), lm, f.high, mul-le-mul_right (2 * m) (ltb-true (up q + l) (dn q) e)))
      go false e = ltb-false (up q + l) (dn q) e

  pub round-high : up q < dn q + h
  round-high = go (ltb (up q) (dn q + h)) refl
    where
      go : (t : Bool) → ltb (up q) (dn q + h) ≡ t → up q < dn q + h
      go true e = ltb-true (up q) (dn q + h) e
      go false e = absurd (omega (arith, sum x (pos m), hm-le, mh-le, f.low, mul-le-mul_right (2 * m) (ltb-false (up q) (dn q + h) e)))

pub rounded-fits : (s : Bool) (n k : ℕ) (x : ℤ) → Fits s n x → Fits s n (round x (suc k))
rounded-fits s n k x f = go s f
  where
    half-k : 2 ^ (suc k - 1) ≡ 2 ^ k
    half-k = ap (λ (t : ℕ). 2 ^ t) (omega arith)

    whole : 2 ^ suc k ≡ 2 * 2 ^ (suc k - 1)
    whole = half (suc k) (omega arith)

    fl : Floor (round x (suc k)) (x +ℤ pos (2 ^ (suc k - 1))) (2 * 2 ^ (suc k - 1))
    fl = subst (λ (m : ℕ). Floor (round x (suc k)) (x +ℤ pos (2 ^ (suc k - 1))) m) whole (floored (x +ℤ pos (2 ^ (suc k - 1))) (2 ^ suc k) (pow_pos (suc k)))

    go : (s : Bool) → Fits s n x → Fits s n (round x (suc k))
    go true f = record {
      low = round-low (2 ^ (n - 1)) (2 ^ (n - 1)) (2 ^ (suc k - 1)) (pow_pos (suc k - 1)) (pow_pos (n - 1)) x (round x (suc k)) f.low f.high fl;
      high = round-high (2 ^ (n - 1)) (2 ^ (n - 1)) (2 ^ (suc k - 1)) (pow_pos (suc k - 1)) (pow_pos (n - 1)) x (round x (suc k)) f.low f.high fl;
    }
    go false f = record {
      low = omega (arith, round-low 0 (2 ^ n) (2 ^ (suc k - 1)) (pow_pos (suc k - 1)) (pow_pos n) x (round x (suc k)) (omega arith) f.high fl);
      high = round-high 0 (2 ^ n) (2 ^ (suc k - 1)) (pow_pos (suc k - 1)) (pow_pos n) x (round x (suc k)) (omega arith) f.high fl;
    }

-- ---- the register forms
-- the Arm value, by flags: rounding or not, clamped or not
abbrev pub turned : Bool → ℤ → ℤ → ℤ
turned true z k = round_z z k
turned false z k = shift_z z k

abbrev pub limited : Bool → Bool → ℕ → ℤ → ℤ
limited true s n z = clamp_to s n z
limited false s n z = z

limited-in : (saturate s : Bool) (n : ℕ) (z : ℤ) → Fits s n z → z ≡ limited saturate s n z
limited-in true s n z f = sym (clamp-in s n z f)
limited-in false s n z f = refl

module _ (r : ℕ → ℕ) (rounding saturate s : Bool) (v raw : Expr) (n : ℕ) (x : ℤ) (hn : 8 ≤ n) (f : Fits s n x) (p : Is r v n x) where
  positive-n : 0 < n
  positive-n = omega arith

  large : 256 ≤ 2 ^ n
  large = pow_mono {i = 8} hn

  -- to the right by suc k
  right : (rounding : Bool) (amount : Expr) (k : ℕ) → k < 128 → Is r amount n (pos (suc k))
      → Is r (shift_right v amount n s rounding register_shift_max) n (limited saturate s n (turned rounding x (negsuc k)))
  unfolding Arith.shift_right
  right false amount k l q =
      is_eq r (limited-in saturate s n (floor x (suc k)) (floor-fits s n x (2 ^ suc k) (pow_pos (suc k)) f))
      (is-shift r s positive-n f p (by-is r (omega (arith, large)) q))
  right true amount k l q =
      is_eq r (limited-in saturate s n (round x (suc k)) (rounded-fits s n k x f))
      (is-round n (suc k) 128 positive-n (omega arith) (omega arith) r s v amount x f (omega (arith, large)) p q)

  left : (saturate : Bool) (amount : Expr) (k : ℕ) → By r amount k → Is r (left_by saturate v amount n s) n (limited saturate s n (scale x k))
  left true amount k q = is-saturating r v n k positive-n s amount x f p q
  left false amount k q = is-shl r p q

  right-width : (rounding : Bool) (amount : Expr) → width (shift_right v amount n s rounding register_shift_max) ≡ n
  unfolding Arith.shift_right width
  right-width false amount = go s
    where
      go : (s : Bool) → unfold width in (width (shift_by s v amount) ≡ n)
      go true = p.wide
      go false = p.wide
  right-width true amount = omega (arith, positive-n)

  turn : (amount : Expr) (k : ℤ) → FitsS 8 k → Is r amount n k
      → Is r (Ite (Compare Slt amount (Const 0 n)) (shift_right v (Bv Sub (Const 0 n) amount) n s rounding register_shift_max) (left_by saturate v amount n s)) n
      (limited saturate s n (turned rounding x k))
  turn amount (pos k) g q =
      let zf : FitsS n (pos 0) = record { low = omega arith; high = omega (arith, pow_pos (n - 1)) } in
      let c = says-slt r positive-n (wider 8 n (pos k) hn g) zf q (is-const r 0 n (pow_pos n)) in
      is-else r (rw (ge-is (pos k) (pos 0) (omega arith)) at c) (right-width rounding (Bv Sub (Const 0 n) amount))
      (is_eq r (same rounding) (left saturate amount k (by-is r (omega (arith, large)) q)))
    where
      same : (rounding : Bool) → limited saturate s n (scale x k) ≡ limited saturate s n (turned rounding x (pos k))
      same true = refl
      same false = refl
  turn amount (negsuc k) g q =
      let zf : FitsS n (pos 0) = record { low = omega arith; high = omega (arith, pow_pos (n - 1)) } in
      let c : Says r (Compare Slt amount (Const 0 n)) true = says-slt r positive-n (wider 8 n (negsuc k) hn g) zf q (is-const r 0 n (pow_pos n)) in
      is-then r c (right rounding (Bv Sub (Const 0 n) amount) k (omega arith)
      (is_eq r (ap pos (zero-add (suc k))) (is-sub r (is-const r 0 n (pow_pos n)) q)))

  pub is-register : (y : ℕ) → y < 2 ^ n → Is r raw n (pos y) → Is r (shift_lane (Register rounding saturate) s v raw n) n (limited saturate s n (turned rounding x (byte y)))
  unfolding Arith.shift_lane
  is-register y l q = turn (signed_amount raw n) (byte y) (byte_fits y) (is-amount r raw n y hn l q)

-- ---- the immediate forms
module _ (r : ℕ → ℕ) (s : Bool) (v : Expr) (n i : ℕ) (x : ℤ) (hn : 0 < n) (f : Fits s n x) (p : Is r v n x) where
  pub is-shl-immediate : Is r (left_immediate None v i n s) n (scale x i)
  is-shl-immediate = is-shl r p (by-const r i n)

  pub is-sqshl-immediate : Is r (saturating_shift_left v (Const i n) n s) n (clamp_to s n (scale x i))
  is-sqshl-immediate = is-saturating r v n i hn s (Const i n) x f p (by-const r i n)

  pub is-shr-immediate : Is r (shift_right v (Const i n) n s false i) n (floor x i)
  unfolding Arith.shift_right
  is-shr-immediate = is-shift r s hn f p (by-const r i n)

  pub is-rshr-immediate : 0 < i → i ≤ n → Is r (shift_right v (Const i n) n s true i) n (round x i)
  is-rshr-immediate hi l =
      let small : i < 2 ^ n = omega (arith, below n) in
      is-round n i i hn hi (omega arith) r s v (Const i n) x f small p (is-const r i n small)

module _ (r : ℕ → ℕ) (v : Expr) (n i : ℕ) (x : ℤ) (hn : 0 < n) (f : FitsS n x) (p : Is r v n x) where
  pub exact-fits : FitsS (n + i + 1) (scale x i)
  exact-fits = wider (n + i) (n + i + 1) (scale x i) (omega arith) (scaled_fits n i x hn f)

  pub is-scaled : Is r (scaled v i (n + i + 1)) (n + i + 1) (scale x i)
  is-scaled = is-shl r (is-sext r hn (omega arith) f p) (by-const r i (n + i + 1))

  pub is-sqshlu : Is r (left_immediate (Some SignedToUnsigned) v i n true) n (c_u n (scale x i))
  is-sqshlu = is-clamp_su r hn (omega arith) exact-fits is-scaled
