-- A lane of each family, n bits from 8 to 64, keeps the pool's rules if its sources do. Assumes nothing.
use mathlib.Core.Bool.{Bool, true, false, cond, not}
use Prim.Native.Nat.{ℕ, zero, suc, ◌+◌, ◌-◌, ◌*◌, ◌/◌, ◌^◌, ◌≤◌, ◌<◌, max}
use native.Mathlib.Omega.{arith}
use native.Mathlib.Nat.{le-max_left}
use lib.Dec.{ltb}
use lib.Pow.{pow_pos, pow_mono, pow-lt}
use Rattle.facts.proofs.Numbers.{below}
use Rattle.terms.specs.Expr.{Expr, Const, SignExtend}
use Rattle.terms.specs.declared.BinOp.TheVariants.{Add, Sub, Mul, And, Or, Xor, Shl, LShr, AShr}
use Rattle.terms.specs.declared.CmpOp.TheVariants.{Eq, Ult, Slt}
use Rattle.terms.specs.declared.BinOp.{BinOp}
use Rattle.trees.specs.Simd.{extract_collapsing}
use Rattle.trees.specs.Arith.{negated, shift_bound, saturating_shift_left, register_shift_max, left_by}
use Rattle.trees.specs.Arith.{absolute_difference_lane, shift_insert_lane}
use Rattle.trees.specs.Trees.{narrowed, saturating_lane, shift_right, left_immediate, signed_amount, shift_lane, leading_zeros, population_count, bitwise_unary_lane}
use Rattle.trees.specs.Trees.{mixed_sign_add_lane, doubling_product, doubling_long_lane, high_narrow_lane}
use Rattle.trees.specs.Arith as Arith
use Rattle.trees.specs.Width as Width
use Rattle.trees.specs.declared.SaturateTo.TheVariants.{Signed, SignedToUnsigned}
use Rattle.trees.specs.declared.SaturateTo.{SaturateTo}
use Rattle.std.specs.declared.option.Option.{Option}
use Rattle.std.specs.declared.option.Option.TheVariants.{None, Some}
use Rattle.trees.specs.declared.ShiftKind.TheVariants.{Register}
use Rattle.trees.specs.declared.SaturatingKind.TheVariants.{AddSub, Halving, Narrow, ShiftNarrow, DoublingMultiplyHigh, Unary}
use Rattle.trees.specs.declared.BitwiseUnary.TheVariants.{LeadingSignBits, ReverseBits}
use Rattle.trees_value.proofs.Wrap.{half}
use Rattle.trees_value.proofs.Fit.{Fit, test, fit-as, fit-const, fit-bv, fit-ite, fit-extract, fit_cut, fit-zext, fit-sext, fit-extend, fit-shift, fit-plus, fit-clamp, fit-concat-lanes}

module _ (n : ℕ) (h8 : 8 ≤ n) (h64 : n ≤ 64) where
  hn : 0 < n
  hn = omega arith

  pub fit-sat : (op : BinOp) (to : SaturateTo) (s : Bool) {a b : Expr} → Fit a n → Fit b n → Fit (saturating_lane (AddSub op to) a b n s) n
  unfolding Arith.saturating_lane
  fit-sat op to s p q =
      fit-clamp to n hn (omega arith) (omega arith) (fit-bv op (fit-extend s (n + 1) (omega arith) (omega arith) p) (fit-extend s (n + 1) (omega arith) (omega arith) q))

  small : (c w : ℕ) → c ≤ n → n ≤ w → c < 2 ^ w
  small c w h l = omega (arith, below n, pow_mono l)

  pub fit-halving : (t s : Bool) {a b : Expr} → Fit a n → Fit b n → Fit (saturating_lane (Halving t) a b n s) n
  unfolding Arith.saturating_lane
  fit-halving t s p q =
      let one : 1 < 2 ^ (n + 1) = small 1 (n + 1) (omega arith) (omega arith) in
      fit_cut n hn (omega arith)
      (fit-shift s
      (fit-plus t 1 (omega arith) one (fit-bv Add (fit-extend s (n + 1) (omega arith) (omega arith) p) (fit-extend s (n + 1) (omega arith) (omega arith) q)))
      (fit-const 1 (n + 1) (omega arith) (omega arith) one))

  pub fit-narrow : (to : SaturateTo) (s : Bool) {a : Expr} (b : Expr) → Fit a (n * 2) → Fit (saturating_lane (Narrow to) a b n s) n
  unfolding Arith.saturating_lane
  fit-narrow to s b p = fit-clamp to n hn (omega arith) (omega arith) p

  fit_narrowed : (to : Option SaturateTo) {v : Expr} → Fit v (n * 2 + 1) → Fit (narrowed v (n * 2 + 1) n to) n
  fit_narrowed None p = fit_cut n hn (omega arith) p
  fit_narrowed (Some to) p = fit-clamp to n hn (omega arith) (omega arith) p

  pub fit-shift-narrow : (i : ℕ) (t : Bool) (to : Option SaturateTo) (s : Bool) {a : Expr} (b : Expr) → i ≤ n → Fit a (n * 2) → Fit (saturating_lane (ShiftNarrow i t to) a b n s) n
  unfolding Arith.saturating_lane
  fit-shift-narrow i t to s b h p =
      fit_narrowed to
      (fit-shift s (fit-plus t (2 ^ (i - 1)) (omega arith) (pow-lt (omega arith)) (fit-extend s (n * 2 + 1) (omega arith) (omega arith) p))
      (fit-const i (n * 2 + 1) (omega arith) (omega arith) (small i (n * 2 + 1) h (omega arith))))

  fit-negated : (t : Bool) {v : Expr} {w : ℕ} → w ≤ 129 → Fit v w → Fit (negated t v w) w
  fit-negated true {w = w} l p = fit-bv Sub (fit-const 0 w p.some l (pow_pos w)) p
  fit-negated false {w = w} l p =
      let none = fit-const 0 w p.some l (pow_pos w) in
      fit-ite (test Slt p none) (fit-bv Sub none p) p

  pub fit-unary : (t s : Bool) {a : Expr} (b : Expr) → Fit a n → Fit (saturating_lane (Unary t) a b n s) n
  unfolding Arith.saturating_lane
  fit-unary t s b p = fit-clamp Signed n hn (omega arith) (omega arith) (fit-negated t (omega arith) (fit-sext (n + 1) (omega arith) (omega arith) p))

  pub fit-dmulh : (t s : Bool) {a b : Expr} → Fit a n → Fit b n → Fit (saturating_lane (DoublingMultiplyHigh t) a b n s) n
  unfolding Arith.saturating_lane
  fit-dmulh t s p q =
      let w1 : n ≤ n * 2 + 1 = omega arith in
      let w2 : n * 2 + 1 ≤ 129 = omega arith in
      let one = fit-const 1 (n * 2 + 1) (omega arith) w2 (small 1 (n * 2 + 1) (omega arith) w1) in
      fit-clamp Signed n hn w1 w2
      (fit-bv AShr (fit-plus t (2 ^ (n - 1)) w2 (pow-lt (omega arith)) (fit-bv Shl (fit-bv Mul (fit-sext (n * 2 + 1) w1 w2 p) (fit-sext (n * 2 + 1) w1 w2 q)) one))
      (fit-const n (n * 2 + 1) (omega arith) w2 (small n (n * 2 + 1) (omega arith) w1)))

  -- shifts
  pub fit-right : (s t : Bool) {v amount : Expr} (most : ℕ) → most ≤ 128 → Fit v n → Fit amount n → Fit (shift_right v amount n s t most) n
  unfolding Arith.shift_right
  fit-right s false most l p q = fit-shift s p q
  fit-right s true most l p q =
      let w1 : n ≤ max n most + 1 = omega (arith, le-max_left n most) in
      let w2 : max n most + 1 ≤ 129 = omega arith in
      let one = fit-const 1 (max n most + 1) (omega arith) w2 (small 1 (max n most + 1) (omega arith) w1) in
      let by = fit-zext (max n most + 1) w1 w2 q in
      fit_cut n hn w1 (fit-shift s (fit-bv Add (fit-extend s (max n most + 1) w1 w2 p) (fit-bv Shl one (fit-bv Sub by one))) by)

  fit-zero : Fit (Const 0 n) n
  fit-zero = fit-const 0 n hn (omega arith) (pow_pos n)

  fit-bound : (s : Bool) {v : Expr} → Fit v n → Fit (shift_bound v n s) n
  fit-bound true p =
      let o : 0 < 2 ^ (n - 1) = pow_pos (n - 1) in
      fit-ite (test Slt p fit-zero) (fit-const (2 ^ (n - 1)) n hn (omega arith) (omega (arith, half n hn)))
      (fit-const (2 ^ (n - 1) - 1) n hn (omega arith) (omega (arith, half n hn)))
  fit-bound false p = fit-const (2 ^ n - 1) n hn (omega arith) (omega (arith, pow_pos n))

  pub fit-saturating : (s : Bool) {v amount : Expr} → Fit v n → Fit amount n → Fit (saturating_shift_left v amount n s) n
  unfolding saturating_shift_left
  fit-saturating s p q = fit-ite (test Eq (fit-shift s (fit-bv Shl p q) q) p) (fit-bv Shl p q) (fit-bound s p)

  fit-amount : {raw : Expr} → Fit raw n → Fit (signed_amount raw n) n
  fit-amount {raw = raw} p = go (ltb 8 n)
    where
      go : (t : Bool) → Fit (cond t (SignExtend (extract_collapsing raw 7 0) n) raw) n
      go true = fit-sext n h8 (omega arith) (fit_cut 8 (omega arith) h8 p)
      go false = p

  fit-left : (t s : Bool) {v amount : Expr} → Fit v n → Fit amount n → Fit (left_by t v amount n s) n
  fit-left true s p q = fit-saturating s p q
  fit-left false s p q = fit-bv Shl p q

  pub fit-register : (t u s : Bool) {v raw : Expr} → Fit v n → Fit raw n → Fit (shift_lane (Register t u) s v raw n) n
  unfolding Arith.shift_lane
  fit-register t u s p q =
      let k = fit-amount q in
      fit-ite (test Slt k fit-zero) (fit-right s t register_shift_max (omega arith) p (fit-bv Sub fit-zero k)) (fit-left u s p k)

  pub fit-imm : (i : ℕ) → i ≤ n → Fit (Const i n) n
  fit-imm i h = fit-const i n hn (omega arith) (small i n h (omega arith))

  pub fit-sqshlu : (i : ℕ) {v : Expr} → i < n → Fit v n → Fit (left_immediate (Some SignedToUnsigned) v i n true) n
  fit-sqshlu i h p =
      fit-clamp SignedToUnsigned n hn (omega arith) (omega arith)
      (fit-bv Shl (fit-sext (n + i + 1) (omega arith) (omega arith) p) (fit-const i (n + i + 1) (omega arith) (omega arith) (small i (n + i + 1) (omega arith) (omega arith))))

  -- bits
  fit-bit : {v : Expr} {w : ℕ} (k : ℕ) → k < w → Fit v w → Fit (extract_collapsing v k k) 1
  fit-bit k h p = fit-as (omega arith) (fit-extract k k (omega arith) h p)

  pub fit-leading : {v : Expr} {w : ℕ} (k : ℕ) → w ≤ 64 → k ≤ w → Fit v w → Fit (leading_zeros v w k) w
  unfolding Arith.leading_zeros
  fit-leading {w = w} zero l h p = fit-const w w p.some (omega arith) (below w)
  fit-leading {w = w} (suc k) l h p =
      fit-ite (test Eq (fit-bit k h p) (fit-const 1 1 (omega arith) (omega arith) (omega arith))) (fit-const (w - 1 - k) w p.some (omega arith) (omega (arith, below w)))
      (fit-leading k l (omega arith) p)

  pub fit_count : {v : Expr} (k : ℕ) → k ≤ n → Fit v n → Fit (population_count v n k) n
  unfolding Arith.population_count
  fit_count zero h p = fit-zero
  fit_count (suc k) h p = fit-bv Add (fit_count k (omega arith) p) (fit-zext n (omega arith) (omega arith) (fit-bit k h p))

  pub fit-signs : {v : Expr} → Fit v n → Fit (bitwise_unary_lane LeadingSignBits v n) n
  unfolding Arith.bitwise_unary_lane
  fit-signs p =
      fit-zext n (omega arith) (omega arith)
      (fit-leading (n - 1) (omega arith) (omega arith)
      (fit-bv Xor (fit-as (omega arith) (fit-extract (n - 1) 1 (omega arith) (omega arith) p)) (fit_cut (n - 1) (omega arith) (omega arith) p)))

  pub fit-insert : (t : Bool) (i : ℕ) {d a : Expr} → i ≤ n → Fit d n → Fit a n → Fit (shift_insert_lane t d a i n) n
  unfolding shift_insert_lane
  fit-insert true i h o p = fit-bv Or (fit-bv Shl p (fit-imm i h)) (fit-bv And o (fit-const (2 ^ i - 1) n hn (omega arith) (omega (arith, pow_mono h, pow_pos i))))
  fit-insert false i h o p = fit-bv Or (fit-bv LShr p (fit-imm i h)) (fit-bv And o (fit-const (2 ^ n - 2 ^ (n - i)) n hn (omega arith) (omega (arith, pow_pos (n - i), pow_pos n))))

  pub fit-mixed : (s : Bool) {d a : Expr} → Fit d n → Fit a n → Fit (mixed_sign_add_lane s d a n) n
  unfolding Arith.mixed_sign_add_lane
  fit-mixed s o p =
      fit-clamp (cond s Signed SignedToUnsigned) n hn (omega arith) (omega arith)
      (fit-bv Add (fit-extend s (n + 2) (omega arith) (omega arith) o) (fit-extend (not s) (n + 2) (omega arith) (omega arith) p))

  pub fit-product : {a b : Expr} → Fit a (n / 2) → Fit b (n / 2) → Fit (doubling_product a b n) n
  unfolding Arith.doubling_product
  fit-product p q =
      fit-clamp Signed n hn (omega arith) (omega arith)
      (fit-bv Shl (fit-bv Mul (fit-sext (n + 1) (omega arith) (omega arith) p) (fit-sext (n + 1) (omega arith) (omega arith) q))
      (fit-const 1 (n + 1) (omega arith) (omega arith) (small 1 (n + 1) (omega arith) (omega arith))))

  pub fit-combined : (op : BinOp) {d a b : Expr} → Fit d n → Fit a (n / 2) → Fit b (n / 2) → Fit (doubling_long_lane (Some op) d a b n) n
  unfolding Arith.doubling_long_lane
  fit-combined op o p q =
      fit-clamp Signed n hn (omega arith) (omega arith)
      (fit-bv op (fit-sext (n + 1) (omega arith) (omega arith) o) (fit-sext (n + 1) (omega arith) (omega arith) (fit-product p q)))

  pub fit-abd : (s : Bool) {a b : Expr} → Fit a n → Fit b n → Fit (absolute_difference_lane s a b) n
  unfolding absolute_difference_lane
  fit-abd true p q = fit-ite (test Slt p q) (fit-bv Sub q p) (fit-bv Sub p q)
  fit-abd false p q = fit-ite (test Ult p q) (fit-bv Sub q p) (fit-bv Sub p q)

  pub fit-high : (subtract t : Bool) {a b : Expr} → Fit a (n * 2) → Fit b (n * 2) → Fit (high_narrow_lane subtract t a b n) n
  unfolding Width.high_narrow_lane
  fit-high subtract t p q =
      fit-as (omega arith) (fit-extract (n * 2 - 1) n (omega arith) (omega arith) (fit-plus t (2 ^ (n - 1)) (omega arith) (pow-lt (omega arith)) (fit-bv (cond subtract Sub Add) p q)))

pub fit_reverse : (n : ℕ) {v : Expr} → 0 < n → n ≤ 129 → Fit v n → Fit (bitwise_unary_lane ReverseBits v n) n
unfolding Arith.bitwise_unary_lane
fit_reverse n {v = v} hn h p =
    fit-as (omega arith)
    (fit-concat-lanes 1 (n - 1) (λ j. extract_collapsing v (n - 1 - j) (n - 1 - j)) (omega arith)
    (λ j l. fit-as (omega arith) (fit-extract (n - 1 - j) (n - 1 - j) (omega arith) (omega arith) p)))
