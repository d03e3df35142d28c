-- The families that go by bits: counts, reversal, inserts, and the high halves. Assumes nothing.
use mathlib.Core.Path.{◌≡◌, refl, sym, ap, ap₂, ◌∙◌, subst}
use mathlib.Core.Bool.{Bool, true, false, cond}
use Prim.Native.Nat.{ℕ, zero, suc, ◌+◌, ◌-◌, ◌*◌, ◌/◌, ◌%◌, ◌^◌, ◌≤◌, ◌<◌}
use native.Mathlib.Omega.{arith}
use native.Mathlib.Nat.{mod-lt, mod-eq_of_lt, div-one, div-le_self, add-zero, mul-mod_left}
use borrow.Author.Tests.{eqb-true, eqb-false}
use lib.Dec.{eqb}
use lib.Bits as B
use lib.Bits.{bit_and, bit_or, bit_xor}
use lib.Pow.{pow_pos, shr_lt, shr_mod, shr-shr, shl-shr, field, mod-mod-pow, mod-pow-add, pow-lt}
use lib.IntN.{ℤ, pos}
use Rattle.facts.proofs.Numbers.{below}
use Rattle.terms.specs.Expr.{Expr, Const, Bv, Compare, Ite, width}
use Rattle.terms.specs.Value.{value, bvshl, bvlshr}
use Rattle.terms.specs.declared.BinOp.TheVariants.{Add, Sub, Xor}
use Rattle.terms.specs.declared.CmpOp.TheVariants.{Eq}
use Rattle.neon.specs.Arm.{wrap, floor, scale, bit_at, ones, equal_run, lanes}
use Rattle.trees.specs.Simd.{extract_collapsing}
use Rattle.trees.specs.Arith.{plus_if, shift_insert_lane}
use Rattle.trees.specs.Trees.{leading_zeros, population_count, bitwise_unary_lane, high_narrow_lane}
use Rattle.trees.specs.Arith as Arith
use Rattle.trees.specs.Width as Width
use Rattle.trees.specs.declared.BitwiseUnary.TheVariants.{LeadingSignBits, ReverseBits}
use Rattle.neon.proofs.Lanes.{lanes-eq}
use Rattle.trees_value.proofs.Wrap.{wrap-lt}
use Rattle.trees_value.proofs.Bv.{wrap-pos}
use Rattle.trees_value.proofs.Is.{Is, is_eq, is-const, is-add, is-zext, is-then, is-else, says_eq}
use Rattle.trees_value.proofs.Lanes.{cut-value, cut-width, concat-width, concat-value}
use Rattle.trees_value.proofs.Sat.{is-plus, is-apply, apply_z, plus}

pub bit-lt : (j v : ℕ) → bit_at j v < 2
bit-lt j v = mod-lt (v / 2 ^ j) (omega arith)

module _ (r : ℕ → ℕ) where
  -- a term that is a number below 2 ^ w
  pub number : {t : Expr} {w k : ℕ} → k < 2 ^ w → width t ≡ w → value r t ≡ k → Is r t w (pos k)
  number {w = w} {k = k} h e v = record { wide = e; val = v ∙ sym (wrap-pos w k h) }

  module _ (v : Expr) (x : ℕ) (hv : value r v ≡ x) where
    -- one bit
    pub is-bit : (j : ℕ) → Is r (extract_collapsing v j j) 1 (pos (bit_at j x))
    is-bit j =
        let one : suc (j - j) ≡ 1 = omega arith in
        number (bit-lt j x) (cut-width v j j ∙ one) (cut-value r v j j (omega arith) ∙ rw (one, hv))

    pub is-count : (n k : ℕ) → 0 < n → k ≤ n → Is r (population_count v n k) n (pos (ones k x))
    unfolding Arith.population_count ones
    is-count n zero hn h = is-const r 0 n (pow_pos n)
    is-count n (suc k) hn h =
        is-add r (is-count n k hn (omega arith))
        (is-zext r hn (record { low = omega arith; high = bit-lt k x }) (is-bit k))

    -- the choices by the first k bits
    pub is_leading : (n k : ℕ) → 0 < n → k ≤ n → Is r (leading_zeros v n k) n (pos (n - k + equal_run 0 k x))
    unfolding Arith.leading_zeros equal_run
    is_leading n zero hn h = is_eq r (ap pos (omega arith)) (is-const r n n (below n))
    is_leading n (suc k) hn h = go (is_leading n k hn (omega arith)) (eqb (bit_at k x) 0) refl
      where
        test : value r (extract_collapsing v k k) ≡ bit_at k x
        test = (is-bit k).val ∙ wrap-pos 1 (bit_at k x) (bit-lt k x)

        one-val : value r (Const 1 1) ≡ 1
        one-val = unfold value in refl

        go : Is r (leading_zeros v n k) n (pos (n - k + equal_run 0 k x)) → (t : Bool) → eqb (bit_at k x) 0 ≡ t
            → Is r (Ite (Compare Eq (extract_collapsing v k k) (Const 1 1)) (Const (n - 1 - k) n) (leading_zeros v n k)) n (pos (n - suc k + cond t (suc (equal_run 0 k x)) 0))
        go p true e =
            let z : bit_at k x ≡ 0 = eqb-true (bit_at k x) 0 e in
            is_eq r (ap pos (omega arith))
            (is-else r (says_eq r (rw (test, one-val, z))) (unfold width in refl) p)
        go p false e =
            let z : bit_at k x ≡ 1 = omega (arith, bit-lt k x, eqb-false (bit_at k x) 0 e) in
            is-then r (says_eq r (rw (test, one-val, z)))
            (is_eq r (ap pos (omega arith)) (is-const r (n - 1 - k) n (omega (arith, below n))))

-- ---- the counts fit in the lane
pub ones-le : (k v : ℕ) → ones k v ≤ k
unfolding ones
ones-le zero v = omega arith
ones-le (suc k) v = omega (arith, ones-le k v, bit-lt k v)

pub run-le : (t k v : ℕ) → equal_run t k v ≤ k
unfolding equal_run
run-le t zero v = omega arith
run-le t (suc k) v = go (eqb (bit_at k v) t) (run-le t k v)
  where
    go : (b : Bool) → equal_run t k v ≤ k → cond b (suc (equal_run t k v)) 0 ≤ suc k
    go true h = omega arith
    go false h = omega arith

-- ---- leading sign bits: the bits that equal their upper neighbour
low_bit : (v m k : ℕ) → k < m → v % 2 ^ m / 2 ^ k % 2 ≡ v / 2 ^ k % 2
low_bit v m k h =
    ap (λ (t : ℕ). v % 2 ^ t / 2 ^ k % 2) e ∙ ap (λ (t : ℕ). t % 2) (field v (m - k - 1 + 1) k) ∙ mod-mod-pow (v / 2 ^ k) (m - k - 1) 1
  where
    e : m ≡ m - k - 1 + 1 + k
    e = omega arith

-- the exclusive or of the bits and their upper neighbours
folded : ℕ → ℕ → ℕ
folded m x = bit_xor (x / 2 % 2 ^ m) (x % 2 ^ m)

folded-bit : (m x k : ℕ) → k < m → bit_at k (folded m x) ≡ bit_xor (bit_at (suc k) x) (bit_at k x)
unfolding folded
folded-bit m x k h =
    ap (λ (t : ℕ). t % 2) (B.xor_shr (x / 2 % 2 ^ m) (x % 2 ^ m) k) ∙ B.xor_mod (x / 2 % 2 ^ m / 2 ^ k) (x % 2 ^ m / 2 ^ k) 1
    ∙ ap₂ bit_xor (low_bit (x / 2) m k h ∙ ap (λ (t : ℕ). t % 2) (shr-shr x 1 k ∙ ap (λ (t : ℕ). x / 2 ^ t) (omega arith))) (low_bit x m k h)

folded-run : (m x k : ℕ) → k ≤ m → equal_run 0 k (folded m x) ≡ equal_run (bit_at k x) k x
unfolding equal_run
folded-run m x zero h = refl
folded-run m x (suc k) h = rw (folded-bit m x k h) (go (eqb (bit_at k x) (bit_at (suc k) x)) refl (folded-run m x k (omega arith)))
  where
    p : ℕ
    p = bit_at (suc k) x

    q : ℕ
    q = bit_at k x

    go : (t : Bool) → eqb (bit_at k x) (bit_at (suc k) x) ≡ t → equal_run 0 k (folded m x) ≡ equal_run (bit_at k x) k x
        → cond (eqb (bit_xor (bit_at (suc k) x) (bit_at k x)) 0) (suc (equal_run 0 k (folded m x))) 0
        ≡ cond (eqb (bit_at k x) (bit_at (suc k) x)) (suc (equal_run (bit_at (suc k) x) k x)) 0
    go true e ih =
        let s : bit_at k x ≡ bit_at (suc k) x = eqb-true (bit_at k x) (bit_at (suc k) x) e in
        rw (e, ih, s, B.xor_self (bit_at (suc k) x))
    go false e ih =
        let d : bit_xor (bit_at (suc k) x) (bit_at k x) ≡ 1 =
        omega (arith, B.xor_add_and (bit_at (suc k) x) (bit_at k x), bit-lt k x, bit-lt (suc k) x, eqb-false (bit_at k x) (bit_at (suc k) x) e) in
        rw (e, d)

module _ (r : ℕ → ℕ) (v : Expr) (n x : ℕ) (hv : value r v ≡ x) where
  pub is-signs : 1 < n → Is r (bitwise_unary_lane LeadingSignBits v n) n (pos (equal_run (bit_at (n - 1) x) (n - 1) x))
  unfolding Arith.bitwise_unary_lane
  is-signs hn =
      is-zext r (omega arith) (record { low = omega arith; high = omega (arith, run-le (bit_at (n - 1) x) (n - 1) x, below (n - 1)) })
      (is_eq r (ap pos (rw (folded-run (n - 1) x (n - 1) (omega arith)) (omega arith)))
      (is_leading r (Bv Xor (extract_collapsing v (n - 1) 1) (extract_collapsing v (n - 1 - 1) 0)) (folded (n - 1) x) val (n - 1) (n - 1) (omega arith) (omega arith)))
    where
      e : suc (n - 1 - 1) ≡ n - 1
      e = omega arith

      e0 : suc (n - 1 - 1 - 0) ≡ n - 1
      e0 = omega arith

      val : value r (Bv Xor (extract_collapsing v (n - 1) 1) (extract_collapsing v (n - 1 - 1) 0)) ≡ folded (n - 1) x
      val = unfold value folded in rw (cut-value r v (n - 1) 1 (omega arith), cut-value r v (n - 1 - 1) 0 (omega arith), hv, e, e0, div-one x)

  -- ---- bits reversed
  pub reverse-width : 0 < n → width (bitwise_unary_lane ReverseBits v n) ≡ n
  unfolding Arith.bitwise_unary_lane
  reverse-width hn = concat-width r 1 (n - 1) (λ j. extract_collapsing v (n - 1 - j) (n - 1 - j)) (λ j. cut-width v (n - 1 - j) (n - 1 - j) ∙ omega arith) ∙ omega arith

  pub reverse-value : 0 < n → value r (bitwise_unary_lane ReverseBits v n) ≡ lanes 1 n (λ j. bit_at (n - 1 - j) x)
  unfolding Arith.bitwise_unary_lane
  reverse-value hn =
      concat-value r 1 (n - 1) (λ j. extract_collapsing v (n - 1 - j) (n - 1 - j)) (λ j. cut-width v (n - 1 - j) (n - 1 - j) ∙ omega arith)
      ∙ lanes-eq 1 (suc (n - 1)) (λ j. value r (extract_collapsing v (n - 1 - j) (n - 1 - j))) (λ j. bit_at (n - 1 - j) x)
      (λ j l. (is-bit r v x hv (n - 1 - j)).val ∙ wrap-pos 1 (bit_at (n - 1 - j) x) (bit-lt (n - 1 - j) x))
      ∙ ap (λ (k : ℕ). lanes 1 k (λ j. bit_at (n - 1 - j) x)) (omega arith)

-- ---- the inserts
module _ (r : ℕ → ℕ) (d a : Expr) (n i y x : ℕ) (wa : width a ≡ n) (vd : value r d ≡ y) (va : value r a ≡ x) (hy : y < 2 ^ n) (hx : x < 2 ^ n) (hi : i ≤ n) where
  split-n : n ≡ n - i + i
  split-n = omega arith

  shifted_up : x * 2 ^ i % 2 ^ n ≡ x % 2 ^ (n - i) * 2 ^ i
  shifted_up =
      ap (λ (t : ℕ). x * 2 ^ i % 2 ^ t) split-n ∙ mod-pow-add (x * 2 ^ i) (n - i) i
      ∙ ap₂ (λ (s t : ℕ). s % 2 ^ (n - i) * 2 ^ i + t) (shl-shr x i) (mul-mod_left x (2 ^ i)) ∙ add-zero (x % 2 ^ (n - i) * 2 ^ i)

  pub sli-value : value r (shift_insert_lane true d a i n) ≡ wrap n (scale (pos x) i) + y % 2 ^ i
  unfolding shift_insert_lane value bvshl wrap
  sli-value =
      rw (wa, va, vd, B.and_mask y i, shifted_up) (B.or_shifted (x % 2 ^ (n - i)) i (y % 2 ^ i) (mod-lt y (pow_pos i)))

  sri-split : n ≡ i + (n - i)
  sri-split = omega arith

  pub sri-value : value r (shift_insert_lane false d a i n) ≡ y / 2 ^ (n - i) * 2 ^ (n - i) + wrap n (floor (pos x) i)
  unfolding shift_insert_lane value bvlshr wrap
  sri-value =
      ap₂ bit_or (ap₂ (λ (t w : ℕ). t / 2 ^ i % 2 ^ w) va wa ∙ low) (ap₂ bit_and vd (ap (λ (t : ℕ). 2 ^ t - 2 ^ (n - i)) sri-split) ∙ B.and_high y i (n - i)
      ∙ ap (λ (t : ℕ). t * 2 ^ (n - i)) (shr_mod i (n - i) (subst (λ (t : ℕ). y < 2 ^ t) sri-split hy)))
      ∙ B.or_shifted_r (y / 2 ^ (n - i)) (n - i) (x / 2 ^ i) (shr_lt (n - i) i (subst (λ (t : ℕ). x < 2 ^ t) split-n hx))
      ∙ ap (λ (t : ℕ). y / 2 ^ (n - i) * 2 ^ (n - i) + t) (sym low)
    where
      low : x / 2 ^ i % 2 ^ n ≡ x / 2 ^ i
      low = mod-eq_of_lt (omega (arith, div-le_self x (2 ^ i)))

  pub insert-width : (left : Bool) → width (shift_insert_lane left d a i n) ≡ n
  unfolding shift_insert_lane width
  insert-width true = wa
  insert-width false = wa

-- ---- the high half
module _ (r : ℕ → ℕ) (a b : Expr) (n : ℕ) (x y : ℤ) (hn : 0 < n) (p : Is r a (n * 2) x) (q : Is r b (n * 2) y) where
  pub high-width : (subtract : Bool) (rounding : Bool) → width (high_narrow_lane subtract rounding a b n) ≡ n
  unfolding Width.high_narrow_lane
  high-width subtract rounding = cut-width (plus_if rounding (Bv (cond subtract Sub Add) a b) (Const (2 ^ (n - 1)) (n * 2))) (n * 2 - 1) n ∙ omega arith

  pub high_value : (subtract : Bool) (rounding : Bool)
      → value r (high_narrow_lane subtract rounding a b n) ≡ wrap (n * 2) (plus rounding (apply_z subtract x y) (2 ^ (n - 1))) / 2 ^ n
  unfolding Width.high_narrow_lane
  high_value subtract rounding =
      cut-value r (plus_if rounding (Bv (cond subtract Sub Add) a b) (Const (2 ^ (n - 1)) (n * 2))) (n * 2 - 1) n (omega arith)
      ∙ rw ((is-plus r rounding (2 ^ (n - 1)) small (is-apply r subtract p q)).val, size)
      (shr_mod n n (subst (λ (t : ℕ). wrap (n * 2) (plus rounding (apply_z subtract x y) (2 ^ (n - 1))) < 2 ^ t) twice (wrap-lt (n * 2) (plus rounding (apply_z subtract x y) (2 ^ (n - 1))))))
    where
      size : suc (n * 2 - 1 - n) ≡ n
      size = omega arith

      twice : n * 2 ≡ n + n
      twice = omega arith

      small : 2 ^ (n - 1) < 2 ^ (n * 2)
      small = pow-lt (omega arith)
