-- Two cutters that make like cuts make like trees, whatever "like" is, so long as each kind of term keeps it: the families, function by function.
-- Assumes nothing.
use mathlib.Core.Bool.{Bool, true, false, cond, not}
use mathlib.Core.List.{List, [], ◌∷◌}
use Prim.Native.Nat.{ℕ, zero, suc, ◌+◌, ◌-◌, ◌*◌, ◌/◌, ◌≤◌, ◌<◌}
use native.Mathlib.Omega.{arith}
use lib.Dec.{ltb, eqb}
use Rattle.std.specs.declared.option.Option.{Option}
use Rattle.std.specs.declared.option.Option.TheVariants.{None, Some}
use Rattle.terms.specs.Expr.{Expr, Const, Bv, Compare, Ite, Concat, ZeroExtend, SignExtend}
use Rattle.neon.specs.declared.Instruction.{Instruction}
use Rattle.neon.specs.Op.{Op, op_at, Arrangement, arrangement_at, bits_of_lane, full}
use Rattle.neon.specs.Form.{form, lane_count, first_full, second_full, by_element}
use Rattle.neon.proofs.Geometry.{sized}
use Rattle.trees.specs.declared.NeonOp.{NeonOp}
use Rattle.trees.specs.declared.NeonOp.TheVariants.{Shift, ShiftInsert, MixedSignAdd, DoublingLong, Saturating, BitwiseUnary}
use Rattle.trees.specs.declared.NeonOp.TheVariants.{AbsoluteDifference, HighNarrow}
use Rattle.trees.specs.Simd.{Cutter, concat_lanes}
use Rattle.trees.specs.Lower.{extend}
use Rattle.trees.specs.Arith.{BinOp, Add, Sub, Mul, And, Or, Xor, Shl, CmpOp, Eq, Ult, Slt, SaturateTo, Signed, Unsigned, SignedToUnsigned}
use Rattle.trees.specs.Arith.{ShiftKind, LeftImmediate, RightImmediate, Register, SaturatingKind, AddSub, Halving, Narrow}
use Rattle.trees.specs.Arith.{ShiftNarrow, DoublingMultiplyHigh, Unary, PopulationCount, LeadingZeros, LeadingSignBits, ReverseBits}
use Rattle.trees.specs.Arith.{clamped, plus_if, negated, joined, twice, exact_lane, exact_bits, kind_to, rounding_bits, shift_bound, saturating_shift_left}
use Rattle.trees.specs.Arith.{register_shift_max, left_by, absolute_difference_lane, accumulated, narrowing, kind_bits}
use Rattle.trees.specs.Neon.{neon_op}
use Rattle.trees.specs.Block.{widen_tree}
use Rattle.trees.specs.Simd as Simd
use Rattle.trees.specs.Arith as Arith
use Rattle.trees.specs.Width as Width
use Rattle.trees.specs.Neon as Neon
use Rattle.trees.specs.Block as Block

-- like terms: each kind of term over like operands, and each cutter's cut
pub record Alike (R : Expr → Expr → Type 0) (c c' : Cutter) : Type 0 where
  pub const : (v w : ℕ) → R (Const v w) (Const v w)
  pub bv : (o : BinOp) {a a' b b' : Expr} → R a a' → R b b' → R (Bv o a b) (Bv o a' b')
  pub compare : (o : CmpOp) {a a' b b' : Expr} → R a a' → R b b' → R (Compare o a b) (Compare o a' b')
  pub ite : {t t' a a' b b' : Expr} → R t t' → R a a' → R b b' → R (Ite t a b) (Ite t' a' b')
  pub concat : {a a' b b' : Expr} → R a a' → R b b' → R (Concat a b) (Concat a' b')
  pub zext : (w : ℕ) {a a' : Expr} → R a a' → R (ZeroExtend a w) (ZeroExtend a' w)
  pub sext : (w : ℕ) {a a' : Expr} → R a a' → R (SignExtend a w) (SignExtend a' w)
  pub lane : (hi lo : ℕ) → lo ≤ hi → {a a' : Expr} → R a a' → R (c.lane a hi lo) (c'.lane a' hi lo)
  pub bits : (hi lo : ℕ) → lo ≤ hi → {a a' : Expr} → R a a' → R (c.bits a hi lo) (c'.bits a' hi lo)

module _ {R : Expr → Expr → Type 0} {c c' : Cutter} (k : Alike R c c') where
  open k use {const, bv, compare, ite, concat, zext, sext, lane, bits}

  -- ---- lanes of registers, and lanes side by side
  pub like-lane : {v v' : Expr} (n j : ℕ) → 0 < n → R v v' → R (Simd.extract_lane c v n j) (Simd.extract_lane c' v' n j)
  unfolding Simd.extract_lane
  like-lane n j h p = lane (n * j + n - 1) (n * j) (omega arith) p

  pub like-lanes : (last : ℕ) {f f' : ℕ → Expr} → ((j : ℕ) → R (f j) (f' j)) → R (concat_lanes last f) (concat_lanes last f')
  unfolding concat_lanes
  like-lanes zero p = p zero
  like-lanes (suc last) p = concat (p (suc last)) (like-lanes last p)

  -- ---- what lanes share
  like-extend : {a a' : Expr} (w : ℕ) (s : Bool) → R a a' → R (extend a w s) (extend a' w s)
  like-extend w true p = sext w p
  like-extend w false p = zext w p

  like-plus : {a a' : Expr} (t : Bool) (v w : ℕ) → R a a' → R (plus_if t a (Const v w)) (plus_if t a' (Const v w))
  like-plus true v w p = bv Add p (const v w)
  like-plus false v w p = p

  like-clamped : {a a' : Expr} (wide n : ℕ) (to : SaturateTo) → R a a' → R (clamped a wide n to) (clamped a' wide n to)
  like-clamped wide n Signed p = ite (compare Slt p (const _ _)) (const _ _) (ite (compare Slt (const _ _) p) (const _ _) p)
  like-clamped wide n Unsigned p = ite (compare Ult (const _ _) p) (const _ _) p
  like-clamped wide n SignedToUnsigned p = ite (compare Slt p (const _ _)) (const _ _) (ite (compare Slt (const _ _) p) (const _ _) p)

  like-clamp : {a a' : Expr} (wide n : ℕ) (to : SaturateTo) → R a a' → R (Arith.clamp c a wide n to) (Arith.clamp c' a' wide n to)
  unfolding Arith.clamp
  like-clamp wide n to p = bits (n - 1) 0 (omega arith) (like-clamped wide n to p)

  -- ---- saturating lanes
  like-narrowed : {a a' : Expr} (wide n : ℕ) (to : Option SaturateTo) → R a a' → R (Arith.narrowed c a wide n to) (Arith.narrowed c' a' wide n to)
  like-narrowed wide n None p = bits (n - 1) 0 (omega arith) p
  like-narrowed wide n (Some to) p = like-clamp wide n to p

  like-negated : {a a' : Expr} (t : Bool) (wide : ℕ) → R a a' → R (negated t a wide) (negated t a' wide)
  like-negated true wide p = bv Sub (const 0 wide) p
  like-negated false wide p = ite (compare Slt p (const 0 wide)) (bv Sub (const 0 wide) p) p

  like-joined : {a a' b b' : Expr} (o : BinOp) (s t : Bool) (wide : ℕ) → R a a' → R b b' → R (joined o a s b t wide) (joined o a' s b' t wide)
  like-joined o s t wide p q = bv o (like-extend wide s p) (like-extend wide t q)

  like-twice : {a a' b b' : Expr} (wide : ℕ) → R a a' → R b b' → R (twice a b wide) (twice a' b' wide)
  like-twice wide p q = bv Shl (like-joined Mul true true wide p q) (const 1 wide)

  like-exact : {a a' b b' : Expr} (kind : SaturatingKind) (n : ℕ) (s : Bool) → R a a' → R b b' → R (exact_lane kind a b n s) (exact_lane kind a' b' n s)
  like-exact (AddSub op to) n s p q = like-joined op s s (n + 1) p q
  like-exact (Halving t) n s p q = bv _ (like-plus t _ _ (like-joined Add s s (n + 1) p q)) (const _ _)
  like-exact (Narrow to) n s p q = p
  like-exact (ShiftNarrow i t to) n s p q = bv _ (like-plus t _ _ (like-extend _ s p)) (const _ _)
  like-exact (DoublingMultiplyHigh t) n s p q = bv _ (like-plus t _ _ (like-twice _ p q)) (const _ _)
  like-exact (Unary t) n s p q = like-negated t (n + 1) (sext _ p)

  like-saturating : {a a' b b' : Expr} (kind : SaturatingKind) (n : ℕ) (s : Bool) → R a a' → R b b'
      → R (Arith.saturating_lane c kind a b n s) (Arith.saturating_lane c' kind a' b' n s)
  unfolding Arith.saturating_lane
  like-saturating kind n s p q = like-narrowed (exact_bits kind n) n (kind_to kind) (like-exact kind n s p q)

  -- ---- shifts
  like-right : {a a' b b' : Expr} (n : ℕ) (s t : Bool) (most : ℕ) → R a a' → R b b'
      → R (Arith.shift_right c a b n s t most) (Arith.shift_right c' a' b' n s t most)
  unfolding Arith.shift_right
  like-right n s false most p q = bv _ p q
  like-right n s true most p q =
      let by = zext (rounding_bits n most) q in
      let one = const 1 (rounding_bits n most) in
      bits (n - 1) 0 (omega arith) (bv _ (bv Add (like-extend _ s p) (bv Shl one (bv Sub by one))) by)

  like-bound : {a a' : Expr} (n : ℕ) (s : Bool) → R a a' → R (shift_bound a n s) (shift_bound a' n s)
  like-bound n true p = ite (compare Slt p (const 0 n)) (const _ _) (const _ _)
  like-bound n false p = const _ _

  like-saturating-left : {a a' b b' : Expr} (n : ℕ) (s : Bool) → R a a' → R b b' → R (saturating_shift_left a b n s) (saturating_shift_left a' b' n s)
  unfolding saturating_shift_left
  like-saturating-left n s p q = ite (compare Eq (bv _ (bv Shl p q) q) p) (bv Shl p q) (like-bound n s p)

  like-left-immediate : {a a' : Expr} (to : Option SaturateTo) (i n : ℕ) (s : Bool) → R a a' → R (Arith.left_immediate c to a i n s) (Arith.left_immediate c' to a' i n s)
  like-left-immediate None i n s p = bv Shl p (const i n)
  like-left-immediate (Some Signed) i n s p = like-saturating-left n s p (const i n)
  like-left-immediate (Some Unsigned) i n s p = like-saturating-left n s p (const i n)
  like-left-immediate (Some SignedToUnsigned) i n s p = like-clamp _ n SignedToUnsigned (bv Shl (sext _ p) (const _ _))

  like_left : {a a' b b' : Expr} (t : Bool) (n : ℕ) (s : Bool) → R a a' → R b b' → R (left_by t a b n s) (left_by t a' b' n s)
  like_left true n s p q = like-saturating-left n s p q
  like_left false n s p q = bv Shl p q

  like-amount : {b b' : Expr} (n : ℕ) → R b b' → R (Arith.signed_amount c b n) (Arith.signed_amount c' b' n)
  like-amount {b} {b'} n p = go (ltb 8 n)
    where
      go : (t : Bool) → R (cond t (SignExtend (c.bits b 7 0) n) b) (cond t (SignExtend (c'.bits b' 7 0) n) b')
      go true = sext n (bits 7 0 (omega arith) p)
      go false = p

  like-shifted : {a a' b b' : Expr} (kind : ShiftKind) (s : Bool) (n : ℕ) → R a a' → R b b'
      → R (Arith.shifted_by c kind s a b n) (Arith.shifted_by c' kind s a' b' n)
  like-shifted (LeftImmediate i to) s n p q = like-left-immediate to i n s p
  like-shifted (RightImmediate i t) s n p q = like-right n s t i p (const i n)
  like-shifted (Register t to) s n p q =
      ite (compare Slt q (const 0 n)) (like-right n s t register_shift_max p (bv Sub (const 0 n) q)) (like_left to n s p q)

  like-shift : {a a' b b' : Expr} (kind : ShiftKind) (s : Bool) (n : ℕ) → R a a' → R b b'
      → R (Arith.shift_lane c kind s a b n) (Arith.shift_lane c' kind s a' b' n)
  unfolding Arith.shift_lane
  like-shift kind s n p q = like-shifted kind s n p (like-amount n q)

  -- ---- bits
  like-leading : {a a' : Expr} (n j : ℕ) → R a a' → R (Arith.leading_zeros c a n j) (Arith.leading_zeros c' a' n j)
  unfolding Arith.leading_zeros
  like-leading n zero p = const n n
  like-leading n (suc j) p = ite (compare Eq (bits j j (omega arith) p) (const 1 1)) (const _ _) (like-leading n j p)

  like-count : {a a' : Expr} (n j : ℕ) → R a a' → R (Arith.population_count c a n j) (Arith.population_count c' a' n j)
  unfolding Arith.population_count
  like-count n zero p = const 0 n
  like-count n (suc j) p = bv Add (like-count n j p) (zext n (bits j j (omega arith) p))

  like-bitwise : {a a' : Expr} (kind : Arith.BitwiseUnary) (n : ℕ) → 2 ≤ n → R a a'
      → R (Arith.bitwise_unary_lane c kind a n) (Arith.bitwise_unary_lane c' kind a' n)
  unfolding Arith.bitwise_unary_lane
  like-bitwise PopulationCount n h p = like-count n n p
  like-bitwise LeadingZeros n h p = like-leading n n p
  like-bitwise LeadingSignBits n h p = zext n (like-leading (n - 1) (n - 1) (bv Xor (bits (n - 1) 1 (omega arith) p) (bits (n - 1 - 1) 0 (omega arith) p)))
  like-bitwise ReverseBits n h p = like-lanes (n - 1) (λ j. bits (n - 1 - j) (n - 1 - j) (omega arith) p)

  -- ---- the other lanes
  like-difference : {a a' b b' : Expr} (s : Bool) → R a a' → R b b' → R (absolute_difference_lane s a b) (absolute_difference_lane s a' b')
  unfolding absolute_difference_lane
  like-difference s p q = ite (compare _ p q) (bv Sub q p) (bv Sub p q)

  like-accumulated : {d d' a a' : Expr} (t : Bool) → R d d' → R a a' → R (accumulated t d a) (accumulated t d' a')
  like-accumulated true p q = bv Add p q
  like-accumulated false p q = q

  like-mixed : {d d' a a' : Expr} (s : Bool) (n : ℕ) → R d d' → R a a' → R (Arith.mixed_sign_add_lane c s d a n) (Arith.mixed_sign_add_lane c' s d' a' n)
  unfolding Arith.mixed_sign_add_lane
  like-mixed s n p q = like-clamp _ n _ (like-joined Add s (not s) _ p q)

  like-product : {a a' b b' : Expr} (n : ℕ) → R a a' → R b b' → R (Arith.doubling_product c a b n) (Arith.doubling_product c' a' b' n)
  unfolding Arith.doubling_product
  like-product n p q = like-clamp _ n Signed (like-twice _ p q)

  like-combined : {d d' a a' : Expr} (t : Option BinOp) (n : ℕ) → R d d' → R a a' → R (Arith.combined c t d a n) (Arith.combined c' t d' a' n)
  like-combined None n p q = q
  like-combined (Some op) n p q = like-clamp _ n Signed (like-joined op true true _ p q)

  like-long : {d d' a a' b b' : Expr} (t : Option BinOp) (n : ℕ) → R d d' → R a a' → R b b'
      → R (Arith.doubling_long_lane c t d a b n) (Arith.doubling_long_lane c' t d' a' b' n)
  unfolding Arith.doubling_long_lane
  like-long t n o p q = like-combined t n o (like-product n p q)

  like-high : {a a' b b' : Expr} (s t : Bool) (n : ℕ) → 0 < n → R a a' → R b b' → R (Width.high_narrow_lane c s t a b n) (Width.high_narrow_lane c' s t a' b' n)
  unfolding Width.high_narrow_lane
  like-high s t n h p q = bits (n * 2 - 1) n (omega arith) (like-plus t _ _ (bv _ p q))

  -- ---- the families: whole vectors
  like-kept : {new new' d d' : Expr} (t : Bool) (n m : ℕ) → R new new' → R d d' → R (Arith.keep_lower c t new d n m) (Arith.keep_lower c' t new' d' n m)
  like-kept true n m p q = concat p (bits (n * m - 1) 0 (omega arith) q)
  like-kept false n m p q = p

  some-source : (kind : SaturatingKind) (n : ℕ) → 0 < n → 0 < kind_bits kind n
  some-source kind n h = go (narrowing kind)
    where
      go : (t : Bool) → 0 < cond t (n * 2) n
      go true = omega arith
      go false = h

  module _ {d d' a a' b b' : Expr} (n m i : ℕ) (h : 2 ≤ n) (o : R d d') (p : R a a') (q : R b b') where
    some : 0 < n
    some = omega arith

    -- the term of every family
    pub like-value : (op : NeonOp) → R (Neon.value_of c op n m i d a b) (Neon.value_of c' op n m i d' a' b')
    unfolding Arith.shift_lanes Arith.shift_insert_lanes Arith.mixed_sign_add_lanes Arith.doubling_long_lanes Arith.saturating_lanes Arith.bitwise_unary_lanes
        Arith.absolute_difference_lanes Width.high_narrow_lanes
    like-value (Shift kind s) = like-lanes (m - 1) (λ j. like-shift kind s n (like-lane n j some p) (like-lane n j some q))
    like-value (ShiftInsert left shift) = like-lanes (m - 1) (λ j. bv Or (bv _ (like-lane n j some p) (const _ _)) (bv And (like-lane n j some o) (const _ _)))
    like-value (MixedSignAdd s) = like-lanes (m - 1) (λ j. like-mixed s n (like-lane n j some o) (like-lane n j some p))
    like-value (DoublingLong t upper element) =
        like-lanes (m - 1) (λ j. like-long t n (like-lane n j some o) (like-lane (n / 2) _ (omega arith) p) (like-lane (n / 2) _ (omega arith) q))
    like-value (Saturating kind s upper) =
        like-kept upper n m
        (like-lanes (m - 1) (λ j. like-saturating kind n s (like-lane _ j (some-source kind n some) p) (like-lane _ j (some-source kind n some) q))) o
    like-value (BitwiseUnary kind) = like-lanes (m - 1) (λ j. like-bitwise kind n h (like-lane n j some p))
    like-value (AbsoluteDifference s t) =
        like-lanes (m - 1) (λ j. like-accumulated t (like-lane n j some o) (like-difference s (like-lane n j some p) (like-lane n j some q)))
    like-value (HighNarrow s t upper) =
        like-kept upper n m (like-lanes (m - 1) (λ j. like-high s t n some (like-lane (n * 2) j (omega arith) p) (like-lane (n * 2) j (omega arith) q))) o

  -- the term of an instruction
  pub like-result : (v : Op) (w : Arrangement) (i : ℕ) {d d' a a' b b' : Expr} → R d d' → R a a' → R b b'
      → R (Neon.result_tree c v w i d a b) (Neon.result_tree c' v w i d' a' b')
  unfolding Neon.result_tree
  like-result v w i o p q = like-value (bits_of_lane w) (lane_count v w) i (omega (arith, (sized w).eight)) o p q (neon_op v i (full w))

  -- ---- blocks
  like-read : {a a' : Expr} (whole : Bool) → R a a' → R (Block.read_tree c whole a) (Block.read_tree c' whole a')
  like-read true p = p
  like-read false p = bits 63 0 (omega arith) p

  like-widen : {a a' : Expr} (whole : Bool) → R a a' → R (widen_tree whole a) (widen_tree whole a')
  like-widen true p = p
  like-widen false p = zext 128 p

  like-record : (e : Instruction) {t t' : ℕ → Expr} → ((r : ℕ) → R (t r) (t' r)) → R (Block.record_tree c e t) (Block.record_tree c' e t')
  unfolding Block.record_tree
  like-record e p =
      let o = op_at e.operation in
      let v = arrangement_at e.arrangement in
      let l = (form o).lanes in
      like-widen (full v)
      (like-result o v e.i (like-read (full v) (p e.d)) (like-read (first_full l (full v)) (p e.n))
      (like-read (second_full l (by_element o) (full v)) (p e.m)))

  -- the terms of the registers after a list of records
  pub like-run : (es : List Instruction) {t t' : ℕ → Expr} → ((r : ℕ) → R (t r) (t' r)) → (r : ℕ) → R (Block.tree_run c es t r) (Block.tree_run c' es t' r)
  unfolding Block.tree_run Block.tree_step
  like-run [] p r = p r
  like-run (e ∷ es) {t} {t'} p r = like-run es (λ x. go x (eqb x e.d)) r
    where
      go : (x : ℕ) (b : Bool) → R (cond b (Block.record_tree c e t) (t x)) (cond b (Block.record_tree c' e t') (t' x))
      go x true = like-record e p
      go x false = p x
