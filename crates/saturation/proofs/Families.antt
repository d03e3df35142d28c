-- The bit of a lane by family, and of each of the 67 operations: 1 exactly when the lane saturates. Assumes nothing.
use mathlib.Core.Path.{◌≡◌, refl, sym, ap, subst}
use mathlib.Core.Bool.{Bool, true, false, cond, ◌||◌}
use Prim.Native.Nat.{ℕ, suc, ◌+◌, ◌-◌, ◌*◌, ◌/◌, ◌^◌, ◌≤◌, ◌<◌}
use native.Mathlib.Omega.{arith}
use lib.Bits.{bit_or}
use lib.Pow.{pow_pos, pow_mono}
use lib.IntN.{ℤ, pos, negsuc, neg_ℤ, nat_abs, ◌+ℤ◌, ◌*ℤ◌}
use Rattle.terms.specs.Expr.{Expr, Const, Bv, Compare, Ite, width}
use Rattle.terms.specs.Value.{value, bit}
use Rattle.terms.specs.declared.BinOp.TheVariants.{Add, Sub, Or}
use Rattle.terms.specs.declared.CmpOp.TheVariants.{Slt}
use Rattle.neon.specs.Op.{Op}
use Rattle.neon.specs.Arm.{S, c_s, byte, doubled, floor, round, scale}
use Rattle.neon.specs.Form.{form, least, most, source_bits}
use Rattle.trees.specs.declared.SaturateTo.TheVariants.{Signed, Unsigned, SignedToUnsigned}
use Rattle.std.specs.declared.option.Option.TheVariants.{Some}
use Rattle.trees.specs.declared.ShiftKind.TheVariants.{LeftImmediate, Register}
use Rattle.trees.specs.declared.SaturatingKind.TheVariants.{ShiftNarrow, DoublingMultiplyHigh, Unary}
use Rattle.trees.specs.Neon.{neon_op}
use Rattle.trees.specs.Trees.{signed_amount}
use Rattle.trees_value.proofs.Z.{ge-is}
use Rattle.trees_value.specs.Fits.{FitsS, FitsU, Fits}
use Rattle.trees_value.proofs.Is.{Is, Has, has-number, is_number, by-const, by-is, is_eq, is-const, is-then, is-else, says-slt}
use Rattle.trees_value.proofs.Clamp.{floor-fits, clamp-fits, S-fits, is-reading}
use Rattle.trees_value.proofs.Register.{turned, exact-fits, is-scaled, wider, byte_fits, is-amount, rounded-fits}
use Rattle.trees_value.proofs.Sat as sat
use Rattle.trees_value.proofs.Sat.{apply_z, plus}
use Rattle.trees_value.proofs.Lane.{Sources}
use Rattle.saturation.specs.Saturates.{beyond_s, beyond_u, saturates_lane, twice}
use Rattle.saturation.specs.Bits.{no, lost, saturating_bit, shift_bit, mixed_sign_bit, product_bit, doubling_long_bit, lane_bit}
use Rattle.saturation.proofs.Clip.{is-clipped_s, is-clipped_u, is-clipped_su, bit-sqaddsub, bit-uqadd, bit-uqsub, bit-sqxtn, bit-uqxtn, bit-sqxtun}
use Rattle.saturation.proofs.Lost.{beyond, inside, is_lost}

bit-lt : (b : Bool) → bit b < 2
bit-lt true = omega arith
bit-lt false = omega arith

module _ (r : ℕ → ℕ) where
  -- a term of one bit, which is 1 exactly when b is true
  pub record BitIs (t : Expr) (b : Bool) : Type 0 where
    pub wide : width t ≡ 1
    pub val : value r t ≡ bit b

  pub bit-has : {t : Expr} {b : Bool} → BitIs t b → Has r t 1 (bit b)
  bit-has p = record { wide = p.wide; val = p.val }

  as-bit : {t : Expr} (b : Bool) → Is r t 1 (pos (bit b)) → BitIs t b
  as-bit b p = let q = has-number r (bit-lt b) p in record { wide = q.wide; val = q.val }

  never : BitIs no false
  never = as-bit false (is-const r 0 1 (omega arith))

  either : {s t : Expr} {x y : Bool} → BitIs s x → BitIs t y → BitIs (Bv Or s t) (x || y)
  unfolding value width
  either {x = x} {y = y} p q = record { wide = p.wide; val = rw (p.val, q.val) (go x y) }
    where
      go : (x y : Bool) → bit_or (bit x) (bit y) ≡ bit (x || y)
      go true true = refl
      go true false = refl
      go false true = refl
      go false false = refl

  -- ---- narrowing shifts, 32 to 37
  module _ (a b : Expr) (n : ℕ) (x : ℤ) (hn : 0 < n) (p : Is r a (n * 2) x) (rounding : Bool) (i : ℕ) (hi : 0 < i) (h : i ≤ n) where
    pub bit-sqshrn : FitsS (n * 2) x → Is r (saturating_bit (ShiftNarrow i rounding (Some Signed)) a b n true) 1 (pos (bit (beyond_s n (floor (plus rounding x (2 ^ (i - 1))) i))))
    unfolding saturating_bit
    bit-sqshrn f = is-clipped_s r hn (omega arith) (sat.narrow-fits r a b n x hn p true rounding i f hi h) (sat.is-shifted r a b n x hn p true rounding i f hi h)

    pub bit-uqshrn : FitsU (n * 2) x → Is r (saturating_bit (ShiftNarrow i rounding (Some Unsigned)) a b n false) 1 (pos (bit (beyond_u n (floor (plus rounding x (2 ^ (i - 1))) i))))
    unfolding saturating_bit
    bit-uqshrn f = is-clipped_u r hn (omega arith) (sat.narrow-fits r a b n x hn p false rounding i f hi h) (sat.is-shifted r a b n x hn p false rounding i f hi h)

    pub bit-sqshrun : FitsS (n * 2) x → Is r (saturating_bit (ShiftNarrow i rounding (Some SignedToUnsigned)) a b n true) 1 (pos (bit (beyond_u n (floor (plus rounding x (2 ^ (i - 1))) i))))
    unfolding saturating_bit
    bit-sqshrun f = is-clipped_su r hn (omega arith) (sat.narrow-fits r a b n x hn p true rounding i f hi h) (sat.is-shifted r a b n x hn p true rounding i f hi h)

  -- ---- the negative and the absolute value, 38 and 39
  module _ (a b : Expr) (n : ℕ) (x : ℤ) (hn : 0 < n) (f : FitsS n x) (p : Is r a n x) where
    pub bit-sqneg : Is r (saturating_bit (Unary true) a b n true) 1 (pos (bit (beyond_s n (neg_ℤ x))))
    unfolding saturating_bit
    bit-sqneg = is-clipped_s r hn (omega arith) (sat.minus-fits r a b n x hn f p) (sat.is-minus r a b n x hn f p)

    pub bit-sqabs : Is r (saturating_bit (Unary false) a b n true) 1 (pos (bit (beyond_s n (pos (nat_abs x)))))
    unfolding saturating_bit
    bit-sqabs = is-clipped_s r hn (omega arith) (sat.abs-fits r a b n x hn f p) (sat.is-abs r a b n x hn f p)

  -- ---- doubling, the high half: 40 and 41
  module _ (a b : Expr) (n : ℕ) (x y : ℤ) (hn : 0 < n) (f : FitsS n x) (g : FitsS n y) (p : Is r a n x) (q : Is r b n y) where
    pub bit-dmulh : (rounding : Bool) → Is r (saturating_bit (DoublingMultiplyHigh rounding) a b n true) 1 (pos (bit (beyond_s n (floor (plus rounding (x *ℤ y *ℤ pos 2) (2 ^ (n - 1))) n))))
    unfolding saturating_bit
    bit-dmulh rounding = is-clipped_s r hn (omega arith) (sat.floor-high n x y hn f g rounding) (sat.is-high r a b n x y hn f g p q rounding)

  -- ---- doubling, long: 42 to 53
  module _ (a b : Expr) (h : ℕ) (x y : ℤ) (hh : 0 < h) (f : FitsS h x) (g : FitsS h y) (p : Is r a h x) (q : Is r b h y) where
    pub bit-dmull : Is r (product_bit a b (h * 2)) 1 (pos (bit (beyond_s (h * 2) (x *ℤ y *ℤ pos 2))))
    bit-dmull = is-clipped_s r (omega arith) (omega arith) (sat.doubled_fits h x y hh f g) (sat.is-doubled r a b h x y hh f g p q (h * 2 + 1) (omega arith))

    pub bit-dmlal : (subtract : Bool) (d : Expr) (z : ℤ) → FitsS (h * 2) z → Is r d (h * 2) z
        → BitIs (doubling_long_bit (Some (cond subtract Sub Add)) d a b (h * 2)) (beyond_s (h * 2) (x *ℤ y *ℤ pos 2) || beyond_s (h * 2) (apply_z subtract z (c_s (h * 2) (x *ℤ y *ℤ pos 2))))
    unfolding doubling_long_bit
    bit-dmlal subtract d z k o =
        either (as-bit (beyond_s (h * 2) (x *ℤ y *ℤ pos 2)) bit-dmull)
        (as-bit (beyond_s (h * 2) (apply_z subtract z (c_s (h * 2) (x *ℤ y *ℤ pos 2))))
        (is-clipped_s r (omega arith) (omega arith) (sat.apply-fits r subtract (omega arith) k (clamp-fits (h * 2) (x *ℤ y *ℤ pos 2)))
        (sat.is-joined r subtract true true (omega arith) (omega arith) k (clamp-fits (h * 2) (x *ℤ y *ℤ pos 2)) o (sat.is-dmull r a b h x y hh f g p q))))

  -- ---- the mixed signs, 54 and 55
  module _ (d a : Expr) (n : ℕ) (z x : ℤ) (hn : 0 < n) (o : Is r d n z) (p : Is r a n x) where
    pub bit-suqadd : FitsS n z → FitsU n x → Is r (mixed_sign_bit true d a n) 1 (pos (bit (beyond_s n (z +ℤ x))))
    unfolding mixed_sign_bit
    bit-suqadd f g = is-clipped_s r hn (omega arith) (sat.sum_su hn f g) (sat.is-joined r false true false hn (omega arith) f g o p)

    pub bit-usqadd : FitsU n z → FitsS n x → Is r (mixed_sign_bit false d a n) 1 (pos (bit (beyond_u n (z +ℤ x))))
    unfolding mixed_sign_bit
    bit-usqadd f g = is-clipped_su r hn (omega arith) (sat.sum_us hn f g) (sat.is-joined r false false true hn (omega arith) f g o p)

  -- ---- shifts by an immediate, 2 to 4
  module _ (v : Expr) (n i : ℕ) (x : ℤ) (hn : 0 < n) (f : FitsS n x) (p : Is r v n x) where
    pub bit-sqshlu : Is r (shift_bit (LeftImmediate i (Some SignedToUnsigned)) true v v n) 1 (pos (bit (beyond_u n (scale x i))))
    unfolding shift_bit
    bit-sqshlu = is-clipped_su r hn (omega arith) (exact-fits r v n i x hn f p) (is-scaled r v n i x hn f p)

  -- ---- shifts by a register, 13 to 16
  module _ (rounding s : Bool) (v raw : Expr) (n : ℕ) (x : ℤ) (hn : 8 ≤ n) (f : Fits s n x) (p : Is r v n x) where
    positive-n : 0 < n
    positive-n = omega arith

    large : 256 ≤ 2 ^ n
    large = pow_mono {i = 8} hn

    zf : FitsS n (pos 0)
    zf = record { low = omega arith; high = omega (arith, pow_pos (n - 1)) }

    right-in : (rounding : Bool) (k : ℕ) → beyond s n (turned rounding x (negsuc k)) ≡ false
    right-in true k = inside s n (round x (suc k)) (rounded-fits s n k x f)
    right-in false k = inside s n (floor x (suc k)) (floor-fits s n x (2 ^ suc k) (pow_pos (suc k)) f)

    left-same : (rounding : Bool) (k : ℕ) → beyond s n (scale x k) ≡ beyond s n (turned rounding x (pos k))
    left-same true k = refl
    left-same false k = refl

    turn : (amount : Expr) (k : ℤ) → FitsS 8 k → Is r amount n k
        → BitIs (Ite (Compare Slt amount (Const 0 n)) no (lost v amount s)) (beyond s n (turned rounding x k))
    turn amount (pos k) g q =
        let c = says-slt r positive-n (wider 8 n (pos k) hn g) zf q (is-const r 0 n (pow_pos n)) in
        as-bit _ (is-else r (rw (ge-is (pos k) (pos 0) (omega arith)) at c) (is-const r 0 1 (omega arith)).wide
        (is_eq r (ap (λ (b : Bool). pos (bit b)) (left-same rounding k)) (is_lost r v n k positive-n s amount x f p (by-is r (omega (arith, large)) q))))
    turn amount (negsuc k) g q =
        let c = says-slt r positive-n (wider 8 n (negsuc k) hn g) zf q (is-const r 0 n (pow_pos n)) in
        as-bit _ (is-then r c (is_eq r (ap (λ (b : Bool). pos (bit b)) (sym (right-in rounding k))) (is-const r 0 1 (omega arith))))

    pub bit-register : (y : ℕ) → y < 2 ^ n → Is r raw n (pos y) → BitIs (shift_bit (Register rounding true) s v raw n) (beyond s n (turned rounding x (byte y)))
    unfolding shift_bit
    bit-register y l q = turn (signed_amount raw n) (byte y) (byte_fits y) (is-amount r raw n y hn l q)

-- ---- each operation
module _ (r : ℕ → ℕ) (n i : ℕ) (d a b : Expr) (w x y : ℕ) (h8 : 8 ≤ n) (even : n / 2 * 2 ≡ n) (hw : w < 2 ^ n) (hd : Has r d n w) where
  hn : 0 < n
  hn = omega arith

  uw : FitsU n (pos w)
  uw = record { low = omega arith; high = omega arith }

  sw : FitsS n (S n w)
  sw = S-fits n w hn hw

  pd : Is r d n (pos w)
  pd = is_number r hw hd

  qd : Is r d n (S n w)
  qd = is-reading r true hw pd

  long : Sources r a b x y (n / 2) → BitIs r (product_bit a b n) (beyond_s n (twice n x y))
  long g =
      subst (λ (m : ℕ). BitIs r (product_bit a b m) (beyond_s m (S (n / 2) x *ℤ S (n / 2) y *ℤ pos 2))) even
      (as-bit r _ (bit-dmull r a b (n / 2) (S (n / 2) x) (S (n / 2) y) (omega arith) g.sx g.sy g.qa g.qb))

  long-with : (subtract : Bool) → Sources r a b x y (n / 2)
      → BitIs r (doubling_long_bit (Some (cond subtract Sub Add)) d a b n) (beyond_s n (twice n x y) || beyond_s n (apply_z subtract (S n w) (doubled n x y)))
  long-with subtract g =
      subst (λ (m : ℕ). FitsS m (S n w) → Is r d m (S n w) → BitIs r (doubling_long_bit (Some (cond subtract Sub Add)) d a b m)
      (beyond_s m (S (n / 2) x *ℤ S (n / 2) y *ℤ pos 2) || beyond_s m (apply_z subtract (S n w) (c_s m (S (n / 2) x *ℤ S (n / 2) y *ℤ pos 2))))) even
      (bit-dmlal r a b (n / 2) (S (n / 2) x) (S (n / 2) y) (omega arith) g.sx g.sy g.qa g.qb subtract d (S n w)) sw qd

  pub bit_is : (o : Op) → least o ≤ i → i ≤ most o n → Sources r a b x y (source_bits (form o).lanes n) → (upper : Bool) → BitIs r (lane_bit (neon_op o i upper) n d a b) (saturates_lane o n i w x y)
  unfolding saturates_lane shift_bit saturating_bit doubling_long_bit
  bit_is Op.SQSHLI l h g u = as-bit r _ (is_lost r a n i hn true (Const i n) (S n x) g.sx g.qa (by-const r i n))
  bit_is Op.UQSHLI l h g u = as-bit r _ (is_lost r a n i hn false (Const i n) (pos x) g.ux g.pa (by-const r i n))
  bit_is Op.SQSHLU l h g u = as-bit r _ (bit-sqshlu r a n i (S n x) hn g.sx g.qa)
  bit_is Op.SQSHL l h g u = bit-register r false true a b n (S n x) h8 g.sx g.qa y g.hy g.pb
  bit_is Op.UQSHL l h g u = bit-register r false false a b n (pos x) h8 g.ux g.pa y g.hy g.pb
  bit_is Op.SQRSHL l h g u = bit-register r true true a b n (S n x) h8 g.sx g.qa y g.hy g.pb
  bit_is Op.UQRSHL l h g u = bit-register r true false a b n (pos x) h8 g.ux g.pa y g.hy g.pb
  bit_is Op.SQADD l h g u = as-bit r _ (bit-sqaddsub r a b n (S n x) (S n y) hn g.qa g.qb false g.sx g.sy)
  bit_is Op.UQADD l h g u = as-bit r _ (bit-uqadd r a b n (pos x) (pos y) hn g.pa g.pb g.ux g.uy)
  bit_is Op.SQSUB l h g u = as-bit r _ (bit-sqaddsub r a b n (S n x) (S n y) hn g.qa g.qb true g.sx g.sy)
  bit_is Op.UQSUB l h g u = as-bit r _ (bit-uqsub r a b n (pos x) (pos y) hn g.pa g.pb g.ux g.uy)
  bit_is Op.SQXTN l h g u = as-bit r _ (bit-sqxtn r a b n (S (n * 2) x) hn g.qa g.sx)
  bit_is Op.UQXTN l h g u = as-bit r _ (bit-uqxtn r a b n (pos x) hn g.pa g.ux)
  bit_is Op.SQXTUN l h g u = as-bit r _ (bit-sqxtun r a b n (S (n * 2) x) hn g.qa g.sx)
  bit_is Op.SQSHRN l h g u = as-bit r _ (bit-sqshrn r a b n (S (n * 2) x) hn g.qa false i l h g.sx)
  bit_is Op.SQRSHRN l h g u = as-bit r _ (bit-sqshrn r a b n (S (n * 2) x) hn g.qa true i l h g.sx)
  bit_is Op.UQSHRN l h g u = as-bit r _ (bit-uqshrn r a b n (pos x) hn g.pa false i l h g.ux)
  bit_is Op.UQRSHRN l h g u = as-bit r _ (bit-uqshrn r a b n (pos x) hn g.pa true i l h g.ux)
  bit_is Op.SQSHRUN l h g u = as-bit r _ (bit-sqshrun r a b n (S (n * 2) x) hn g.qa false i l h g.sx)
  bit_is Op.SQRSHRUN l h g u = as-bit r _ (bit-sqshrun r a b n (S (n * 2) x) hn g.qa true i l h g.sx)
  bit_is Op.SQABS l h g u = as-bit r _ (bit-sqabs r a b n (S n x) hn g.sx g.qa)
  bit_is Op.SQNEG l h g u = as-bit r _ (bit-sqneg r a b n (S n x) hn g.sx g.qa)
  bit_is Op.SQDMULH l h g u = as-bit r _ (bit-dmulh r a b n (S n x) (S n y) hn g.sx g.sy g.qa g.qb false)
  bit_is Op.SQRDMULH l h g u = as-bit r _ (bit-dmulh r a b n (S n x) (S n y) hn g.sx g.sy g.qa g.qb true)
  bit_is Op.SQDMULL l h g u = long g
  bit_is Op.SQDMLAL l h g u = long-with false g
  bit_is Op.SQDMLSL l h g u = long-with true g
  bit_is Op.SQDMULL2 l h g u = long g
  bit_is Op.SQDMLAL2 l h g u = long-with false g
  bit_is Op.SQDMLSL2 l h g u = long-with true g
  bit_is Op.SQDMULLE l h g u = long g
  bit_is Op.SQDMLALE l h g u = long-with false g
  bit_is Op.SQDMLSLE l h g u = long-with true g
  bit_is Op.SQDMULL2E l h g u = long g
  bit_is Op.SQDMLAL2E l h g u = long-with false g
  bit_is Op.SQDMLSL2E l h g u = long-with true g
  bit_is Op.SUQADD l h g u = as-bit r _ (bit-suqadd r d a n (S n w) (pos x) hn qd g.pa sw g.ux)
  bit_is Op.USQADD l h g u = as-bit r _ (bit-usqadd r d a n (pos w) (S n x) hn pd g.qa uw g.sx)
  bit_is Op.SHL l h g u = never r
  bit_is Op.SSHR l h g u = never r
  bit_is Op.USHR l h g u = never r
  bit_is Op.SRSHR l h g u = never r
  bit_is Op.URSHR l h g u = never r
  bit_is Op.SSHL l h g u = never r
  bit_is Op.USHL l h g u = never r
  bit_is Op.SRSHL l h g u = never r
  bit_is Op.URSHL l h g u = never r
  bit_is Op.SLI l h g u = never r
  bit_is Op.SRI l h g u = never r
  bit_is Op.SHADD l h g u = never r
  bit_is Op.UHADD l h g u = never r
  bit_is Op.SRHADD l h g u = never r
  bit_is Op.URHADD l h g u = never r
  bit_is Op.SHRN l h g u = never r
  bit_is Op.RSHRN l h g u = never r
  bit_is Op.SABD l h g u = never r
  bit_is Op.UABD l h g u = never r
  bit_is Op.SABA l h g u = never r
  bit_is Op.UABA l h g u = never r
  bit_is Op.CNT l h g u = never r
  bit_is Op.CLZ l h g u = never r
  bit_is Op.CLS l h g u = never r
  bit_is Op.RBIT l h g u = never r
  bit_is Op.ADDHN l h g u = never r
  bit_is Op.RADDHN l h g u = never r
  bit_is Op.SUBHN l h g u = never r
  bit_is Op.RSUBHN l h g u = never r
