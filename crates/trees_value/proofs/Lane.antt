-- The value of the Rust's tree for a lane is the Arm value, for each of the 67 operations and every even lane width n from 8 on. Assumes nothing.
use mathlib.Core.Path.{◌≡◌, ap, subst}
use mathlib.Core.Bool.{Bool, true, false, cond}
use Prim.Native.Nat.{ℕ, ◌-◌, ◌*◌, ◌/◌, ◌^◌, ◌≤◌, ◌<◌}
use native.Mathlib.Omega.{arith}
use lib.IntN.{pos, ◌*ℤ◌}
use Rattle.facts.proofs.Numbers.{below}
use Rattle.terms.specs.Expr.{Expr}
use Rattle.neon.specs.Op.{Op}
use Rattle.neon.specs.Arm.{S, c_s, bit_at, doubled, arm_lane}
use Rattle.neon.specs.Form.{form, least, most, source_bits}
use Rattle.trees.specs.declared.NeonOp.{NeonOp}
use Rattle.trees.specs.declared.NeonOp.TheVariants.{Shift, ShiftInsert, MixedSignAdd, DoublingLong, Saturating, BitwiseUnary, AbsoluteDifference, HighNarrow}
use Rattle.std.specs.declared.option.Option.TheVariants.{Some}
use Rattle.trees.specs.Arith.{shift_insert_lane, accumulated, absolute_difference_lane}
use Rattle.trees.specs.Neon.{neon_op}
use Rattle.trees.specs.Trees.{shift_lane, mixed_sign_add_lane, doubling_product, doubling_long_lane, saturating_lane, bitwise_unary_lane, high_narrow_lane}
use Rattle.trees.specs.Arith as Arith
use Rattle.trees_value.specs.Fits.{FitsS, FitsU}
use Rattle.trees_value.proofs.Is.{Is, Has, has-is, has-number, is_number, is_eq, is-add}
use Rattle.trees_value.proofs.Clamp.{S-fits, is-reading}
use Rattle.trees_value.proofs.Register.{is-register, is-shl-immediate, is-sqshl-immediate, is-shr-immediate, is-rshr-immediate, is-sqshlu}
use Rattle.trees_value.proofs.Sat.{apply_z, is-halving, is-sqaddsub, is-dmulh, is-uqadd, is-uqsub, is-sqneg, is-sqabs, is-sqxtn, is-uqxtn, is-sqxtun, is-shrn, is-sqshrn, is-uqshrn, is-sqshrun}
use Rattle.trees_value.proofs.Sat.{is-dmull, is-dmlal, is-suqadd, is-usqadd}
use Rattle.trees_value.proofs.Difference.{is-abd}
use Rattle.trees_value.proofs.Bits.{ones-le, run-le, is-count, is_leading, is-signs, reverse-width, reverse-value, sli-value, sri-value, insert-width, high-width, high_value}
use Rattle.terms.specs.declared.BinOp.TheVariants.{Add, Sub}

-- the term of one lane of a family: d is the old lane, a and b are the source lanes
abbrev pub lane_tree : NeonOp → (n : ℕ) (d a b : Expr) → Expr
lane_tree (Shift kind signed) n d a b = shift_lane kind signed a b n
lane_tree (ShiftInsert left shift) n d a b = shift_insert_lane left d a shift n
lane_tree (MixedSignAdd signed) n d a b = mixed_sign_add_lane signed d a n
lane_tree (DoublingLong combine upper element) n d a b = doubling_long_lane combine d a b n
lane_tree (Saturating kind signed upper) n d a b = saturating_lane kind a b n signed
lane_tree (BitwiseUnary kind) n d a b = bitwise_unary_lane kind a n
lane_tree (AbsoluteDifference signed accumulate) n d a b = accumulated accumulate d (absolute_difference_lane signed a b)
lane_tree (HighNarrow subtract rounding upper) n d a b = high_narrow_lane subtract rounding a b n

-- a lane of m bits, read unsigned and signed
module _ (r : ℕ → ℕ) {t : Expr} {m k : ℕ} (hm : 0 < m) (h : k < 2 ^ m) (p : Has r t m k) where
  unsigned-lane : Is r t m (pos k)
  unsigned-lane = is_number r h p

  signed_lane : Is r t m (S m k)
  signed_lane = is-reading r true h unsigned-lane

pos-fits : {m k : ℕ} → k < 2 ^ m → FitsU m (pos k)
pos-fits h = record { low = omega arith; high = omega arith }

-- two source lanes of m bits, x and y
pub record Sources (r : ℕ → ℕ) (a b : Expr) (x y m : ℕ) : Type 0 where
  pub hx : x < 2 ^ m
  pub hy : y < 2 ^ m
  pub ha : Has r a m x
  pub hb : Has r b m y
  pub ux : FitsU m (pos x)
  pub uy : FitsU m (pos y)
  pub sx : FitsS m (S m x)
  pub sy : FitsS m (S m y)
  pub pa : Is r a m (pos x)
  pub pb : Is r b m (pos y)
  pub qa : Is r a m (S m x)
  pub qb : Is r b m (S m y)

pub sources : (r : ℕ → ℕ) {a b : Expr} {x y m : ℕ} → 0 < m → x < 2 ^ m → y < 2 ^ m → Has r a m x → Has r b m y → Sources r a b x y m
sources r {x = x} {y = y} {m = m} hm hx hy ha hb = record {
  hx = hx;
  hy = hy;
  ha = ha;
  hb = hb;
  ux = pos-fits hx;
  uy = pos-fits hy;
  sx = S-fits m x hm hx;
  sy = S-fits m y hm hy;
  pa = unsigned-lane r hm hx ha;
  pb = unsigned-lane r hm hy hb;
  qa = signed_lane r hm hx ha;
  qb = signed_lane r hm hy hb;
}

module _ (r : ℕ → ℕ) (n i : ℕ) (d a b : Expr) (w x y : ℕ) (h8 : 8 ≤ n) (even : n / 2 * 2 ≡ n) (hw : w < 2 ^ n) (hd : Has r d n w) where
  hn : 0 < n
  hn = omega arith

  uw : FitsU n (pos w)
  uw = pos-fits hw

  sw : FitsS n (S n w)
  sw = S-fits n w hn hw

  pd : Is r d n (pos w)
  pd = unsigned-lane r hn hw hd

  qd : Is r d n (S n w)
  qd = signed_lane r hn hw hd

  -- the doubled product of two lanes of half the bits
  long-product : Sources r a b x y (n / 2) → Is r (doubling_product a b n) n (doubled n x y)
  long-product g =
      subst (λ (m : ℕ). Is r (doubling_product a b m) m (c_s m (S (n / 2) x *ℤ S (n / 2) y *ℤ pos 2))) even
      (is-dmull r a b (n / 2) (S (n / 2) x) (S (n / 2) y) (omega arith) g.sx g.sy g.qa g.qb)

  long-combined : (subtract : Bool) → Sources r a b x y (n / 2) → Is r (doubling_long_lane (Some (cond subtract Sub Add)) d a b n) n (c_s n (apply_z subtract (S n w) (doubled n x y)))
  long-combined subtract g =
      subst (λ (m : ℕ). FitsS m (S n w) → Is r d m (S n w)
      → Is r (doubling_long_lane (Some (cond subtract Sub Add)) d a b m) m (c_s m (apply_z subtract (S n w) (c_s m (S (n / 2) x *ℤ S (n / 2) y *ℤ pos 2))))) even
      (is-dmlal r a b (n / 2) (S (n / 2) x) (S (n / 2) y) (omega arith) g.sx g.sy g.qa g.qb subtract d (S n w)) sw qd

  pub lane-is : (o : Op) → least o ≤ i → i ≤ most o n → Sources r a b x y (source_bits (form o).lanes n) → (upper : Bool) → Has r (lane_tree (neon_op o i upper) n d a b) n (arm_lane o n i w x y)
  unfolding arm_lane Arith.shift_lane Arith.doubling_long_lane Arith.bitwise_unary_lane
  lane-is Op.SHL l h g u = has-is r (is-shl-immediate r false a n i (pos x) hn g.ux g.pa)
  lane-is Op.SQSHLI l h g u = has-is r (is-sqshl-immediate r true a n i (S n x) hn g.sx g.qa)
  lane-is Op.UQSHLI l h g u = has-is r (is-sqshl-immediate r false a n i (pos x) hn g.ux g.pa)
  lane-is Op.SQSHLU l h g u = has-is r (is-sqshlu r a n i (S n x) hn g.sx g.qa)
  lane-is Op.SSHR l h g u = has-is r (is-shr-immediate r true a n i (S n x) hn g.sx g.qa)
  lane-is Op.USHR l h g u = has-is r (is-shr-immediate r false a n i (pos x) hn g.ux g.pa)
  lane-is Op.SRSHR l h g u = has-is r (is-rshr-immediate r true a n i (S n x) hn g.sx g.qa l h)
  lane-is Op.URSHR l h g u = has-is r (is-rshr-immediate r false a n i (pos x) hn g.ux g.pa l h)
  lane-is Op.SSHL l h g u = has-is r (is-register r false false true a b n (S n x) h8 g.sx g.qa y g.hy g.pb)
  lane-is Op.USHL l h g u = has-is r (is-register r false false false a b n (pos x) h8 g.ux g.pa y g.hy g.pb)
  lane-is Op.SRSHL l h g u = has-is r (is-register r true false true a b n (S n x) h8 g.sx g.qa y g.hy g.pb)
  lane-is Op.URSHL l h g u = has-is r (is-register r true false false a b n (pos x) h8 g.ux g.pa y g.hy g.pb)
  lane-is Op.SQSHL l h g u = has-is r (is-register r false true true a b n (S n x) h8 g.sx g.qa y g.hy g.pb)
  lane-is Op.UQSHL l h g u = has-is r (is-register r false true false a b n (pos x) h8 g.ux g.pa y g.hy g.pb)
  lane-is Op.SQRSHL l h g u = has-is r (is-register r true true true a b n (S n x) h8 g.sx g.qa y g.hy g.pb)
  lane-is Op.UQRSHL l h g u = has-is r (is-register r true true false a b n (pos x) h8 g.ux g.pa y g.hy g.pb)
  lane-is Op.SLI l h g u = record {
    wide = insert-width r d a n i w x g.ha.wide hd.val g.ha.val hw g.hx (omega arith) true;
    val = sli-value r d a n i w x g.ha.wide hd.val g.ha.val hw g.hx (omega arith);
  }
  lane-is Op.SRI l h g u = record {
    wide = insert-width r d a n i w x g.ha.wide hd.val g.ha.val hw g.hx h false;
    val = sri-value r d a n i w x g.ha.wide hd.val g.ha.val hw g.hx h;
  }
  lane-is Op.SQADD l h g u = has-is r (is-sqaddsub r a b n (S n x) (S n y) hn g.sx g.sy g.qa g.qb false)
  lane-is Op.UQADD l h g u = has-is r (is-uqadd r a b n (pos x) (pos y) hn g.ux g.uy g.pa g.pb)
  lane-is Op.SQSUB l h g u = has-is r (is-sqaddsub r a b n (S n x) (S n y) hn g.sx g.sy g.qa g.qb true)
  lane-is Op.UQSUB l h g u = has-is r (is-uqsub r a b n (pos x) (pos y) hn g.ux g.uy g.pa g.pb)
  lane-is Op.SHADD l h g u = has-is r (is-halving r true a b n (S n x) (S n y) hn g.sx g.sy g.qa g.qb false)
  lane-is Op.UHADD l h g u = has-is r (is-halving r false a b n (pos x) (pos y) hn g.ux g.uy g.pa g.pb false)
  lane-is Op.SRHADD l h g u = has-is r (is-halving r true a b n (S n x) (S n y) hn g.sx g.sy g.qa g.qb true)
  lane-is Op.URHADD l h g u = has-is r (is-halving r false a b n (pos x) (pos y) hn g.ux g.uy g.pa g.pb true)
  lane-is Op.SQXTN l h g u = has-is r (is-sqxtn r a b n (S (n * 2) x) hn g.qa g.sx)
  lane-is Op.UQXTN l h g u = has-is r (is-uqxtn r a b n (pos x) hn g.pa g.ux)
  lane-is Op.SQXTUN l h g u = has-is r (is-sqxtun r a b n (S (n * 2) x) hn g.qa g.sx)
  lane-is Op.SHRN l h g u = has-is r (is-shrn r a b n (pos x) hn g.pa false false i g.ux l h)
  lane-is Op.RSHRN l h g u = has-is r (is-shrn r a b n (pos x) hn g.pa false true i g.ux l h)
  lane-is Op.SQSHRN l h g u = has-is r (is-sqshrn r a b n (S (n * 2) x) hn g.qa false i g.sx l h)
  lane-is Op.SQRSHRN l h g u = has-is r (is-sqshrn r a b n (S (n * 2) x) hn g.qa true i g.sx l h)
  lane-is Op.UQSHRN l h g u = has-is r (is-uqshrn r a b n (pos x) hn g.pa false i g.ux l h)
  lane-is Op.UQRSHRN l h g u = has-is r (is-uqshrn r a b n (pos x) hn g.pa true i g.ux l h)
  lane-is Op.SQSHRUN l h g u = has-is r (is-sqshrun r a b n (S (n * 2) x) hn g.qa false i g.sx l h)
  lane-is Op.SQRSHRUN l h g u = has-is r (is-sqshrun r a b n (S (n * 2) x) hn g.qa true i g.sx l h)
  lane-is Op.SQABS l h g u = has-is r (is-sqabs r a b n (S n x) hn g.sx g.qa)
  lane-is Op.SQNEG l h g u = has-is r (is-sqneg r a b n (S n x) hn g.sx g.qa)
  lane-is Op.SQDMULH l h g u = has-is r (is-dmulh r a b n (S n x) (S n y) hn g.sx g.sy g.qa g.qb false)
  lane-is Op.SQRDMULH l h g u = has-is r (is-dmulh r a b n (S n x) (S n y) hn g.sx g.sy g.qa g.qb true)
  lane-is Op.SQDMULL l h g u = has-is r (long-product g)
  lane-is Op.SQDMLAL l h g u = has-is r (long-combined false g)
  lane-is Op.SQDMLSL l h g u = has-is r (long-combined true g)
  lane-is Op.SQDMULL2 l h g u = has-is r (long-product g)
  lane-is Op.SQDMLAL2 l h g u = has-is r (long-combined false g)
  lane-is Op.SQDMLSL2 l h g u = has-is r (long-combined true g)
  lane-is Op.SQDMULLE l h g u = has-is r (long-product g)
  lane-is Op.SQDMLALE l h g u = has-is r (long-combined false g)
  lane-is Op.SQDMLSLE l h g u = has-is r (long-combined true g)
  lane-is Op.SQDMULL2E l h g u = has-is r (long-product g)
  lane-is Op.SQDMLAL2E l h g u = has-is r (long-combined false g)
  lane-is Op.SQDMLSL2E l h g u = has-is r (long-combined true g)
  lane-is Op.SUQADD l h g u = has-is r (is-suqadd r d a n (S n w) (pos x) hn qd g.pa sw g.ux)
  lane-is Op.USQADD l h g u = has-is r (is-usqadd r d a n (pos w) (S n x) hn pd g.qa uw g.sx)
  lane-is Op.SABD l h g u = has-is r (is-abd r true a b n (S n x) (S n y) hn g.sx g.sy g.qa g.qb)
  lane-is Op.UABD l h g u = has-is r (is-abd r false a b n (pos x) (pos y) hn g.ux g.uy g.pa g.pb)
  lane-is Op.SABA l h g u = has-is r (is-add r pd (is-abd r true a b n (S n x) (S n y) hn g.sx g.sy g.qa g.qb))
  lane-is Op.UABA l h g u = has-is r (is-add r pd (is-abd r false a b n (pos x) (pos y) hn g.ux g.uy g.pa g.pb))
  lane-is Op.CNT l h g u = has-number r (omega (arith, ones-le n x, below n)) (is-count r a x g.ha.val n n hn (omega arith))
  lane-is Op.CLZ l h g u = has-number r (omega (arith, run-le 0 n x, below n)) (is_eq r (ap pos (omega arith)) (is_leading r a x g.ha.val n n hn (omega arith)))
  lane-is Op.CLS l h g u = has-number r (omega (arith, run-le (bit_at (n - 1) x) (n - 1) x, below n)) (is-signs r a n x g.ha.val (omega arith))
  lane-is Op.RBIT l h g u = record { wide = reverse-width r a n x g.ha.val hn; val = reverse-value r a n x g.ha.val hn }
  lane-is Op.ADDHN l h g u = record { wide = high-width r a b n (pos x) (pos y) hn g.pa g.pb false false; val = high_value r a b n (pos x) (pos y) hn g.pa g.pb false false }
  lane-is Op.RADDHN l h g u = record { wide = high-width r a b n (pos x) (pos y) hn g.pa g.pb false true; val = high_value r a b n (pos x) (pos y) hn g.pa g.pb false true }
  lane-is Op.SUBHN l h g u = record { wide = high-width r a b n (pos x) (pos y) hn g.pa g.pb true false; val = high_value r a b n (pos x) (pos y) hn g.pa g.pb true false }
  lane-is Op.RSUBHN l h g u = record { wide = high-width r a b n (pos x) (pos y) hn g.pa g.pb true true; val = high_value r a b n (pos x) (pos y) hn g.pa g.pb true true }
