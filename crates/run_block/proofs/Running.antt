-- Lanes read, and put together. Assumes nothing.
use mathlib.Core.Path.{◌≡◌, refl, sym, ap, ap₂, ◌∙◌, subst}
use mathlib.Core.Bool.{Bool, true, false, cond, ◌||◌}
use Prim.Native.Nat.{ℕ, zero, suc, ◌+◌, ◌-◌, ◌*◌, ◌/◌, ◌%◌, ◌^◌, ◌≤◌, ◌<◌}
use native.Mathlib.Omega.{arith}
use native.Mathlib.Nat.{lt_of_lt_of_le, mul-suc, mul-zero, mod-lt, mul-le-mul_left, mul-le-mul_right, mul_comm, mul-div_cancel, mul-mod_left, add-zero, mod-eq_of_lt}
use native.Mathlib.Numerals.{add-one}
use lib.Arith.{mod-mul}
use lib.Pow.{pow_mono, field}
use mathlib.Core.List.{List}
use lib.Dec.{eqb}
use lib.ListN.{length, set, length-set}
use lib.Seq.{get_or-set_same, get_or-set_other}
use borrow.Author.Tests.{eqb-true, eqb-false}
use Rattle.terms.specs.Value.{bvadd, bvshl}
use Rattle.neon.specs.Arm.{lane, lanes}
use Rattle.neon.proofs.Lanes.{lanes-lt}
use Rattle.wide.specs.declared.Wide.{Wide}
use Rattle.wide.specs.Number.{base, words, num}
use Rattle.wide.proofs.Digits.{low-cut, high-shift}
use Rattle.wide_bit_vectors.proofs.Laws.{concat-is}
use Rattle.saturation.specs.Saturates.{some}
use Rattle.saturation.specs.Family.{family_lane, family_beyond}
use Rattle.trees_value.proofs.Lanes.{lane-lt}
use Rattle.trees.specs.declared.NeonOp.{NeonOp}
use Rattle.run_exact.specs.Exact.{Answers}
use Rattle.run_lanes.specs.Rows.{RowIn, source_of}
use Rattle.run_lanes.proofs.Bounds.{family-lt}
use Rattle.run_block.specs.declared.Register.{Register}
use Rattle.wide.specs.Registers.{registers_of}
use Rattle.run_block.specs.Lanes.{number, Written, second_at, lane_by}

-- ---- a lane that does not cross a word
pub low-lane : (x y n at : ℕ) → at + n ≤ 64 → x / 2 ^ at % 2 ^ n ≡ words x y 0 / 2 ^ at % 2 ^ n
unfolding words
low-lane x y n at h =
    sym (field x n at) ∙ ap (λ (t : ℕ). t / 2 ^ at) (sym (low-cut x (y + base * 0) (n + at) (omega arith))) ∙ field (x + base * (y + base * 0)) n at

pub high_lane : (x y n at : ℕ) → 64 ≤ at → x < base → y / 2 ^ (at - 64) % 2 ^ n ≡ words x y 0 / 2 ^ at % 2 ^ n
unfolding words
high_lane x y n at h l =
    ap (λ (t : ℕ). t % 2 ^ n)
    (sym (ap (λ (t : ℕ). (x + base * (y + base * 0)) / 2 ^ t) {x = at} {y = 64 + (at - 64)} (omega arith) ∙ high-shift x (y + base * 0) (at - 64) l
    ∙ ap (λ (t : ℕ). t / 2 ^ (at - 64)) {x = y + base * 0} {y = y} (omega arith)))

-- ---- lanes put together
pub record Kept (n j : ℕ) (f : ℕ → ℕ) (g : ℕ → Bool) (acc : Wide) (saturated : Bool) : Type 0 where
  pub bits : num acc ≡ lanes n j f
  pub flag : saturated ≡ some j g

pub none_yet : (n : ℕ) (f : ℕ → ℕ) (g : ℕ → Bool) → Kept n 0 f g (record { low = 0; high = 0; top = 0 }) false
unfolding words lanes some
none_yet n f g = record { bits = refl; flag = refl }

module _ (n k : ℕ) (f : ℕ → ℕ) (g : ℕ → Bool) (lt : (j : ℕ) → f j < 2 ^ n) where
  small : (j : ℕ) → n * j ≤ 128 → lanes n j f < 2 ^ 192
  small j h = lt_of_lt_of_le (lanes-lt n j f lt) (pow_mono {j = 192} (omega arith))

  pub one_more : (j : ℕ) (acc next : Wide) (s t : Bool) (b sh : ℕ) → Kept n j f g acc s → n * j + n ≤ 128 → b ≡ f j → t ≡ g j
      → sh ≡ bvshl 192 (words b 0 0) (n * j)
      → num next ≡ bvadd 192 sh (num acc)
      → Kept n (j + 1) f g next (s || t)
  unfolding lanes some words
  one_more j acc next s t b sh kept h eb et es en =
      rw (add-one j)
      (record {
        bits = en ∙ ap₂ (bvadd 192) (es ∙ ap (λ (x : ℕ). bvshl 192 x (n * j)) (word ∙ eb)) kept.bits ∙ concat-is (f j) (lanes n j f) (n * j) (small (suc j) (omega (arith, mul-suc n j)));
        flag = ap₂ ◌||◌ kept.flag et;
      })
    where
      word : b + base * (0 + base * 0) ≡ b
      word = omega arith

  -- the third word is 0
  top-zero : (B x y z : ℕ) → x + B * (y + B * z) < B * B → z ≡ 0
  top-zero B x y zero h = refl
  top-zero B x y (suc z) h = absurd (omega arith)

  pub two-words : (acc : Wide) (s : Bool) → Kept n k f g acc s → n * k ≤ 128 → words acc.low acc.high 0 ≡ lanes n k f
  unfolding words
  two-words acc s kept h = ap (λ (t : ℕ). acc.low + base * (acc.high + base * t)) (sym none) ∙ kept.bits
    where
      below : num acc < 2 ^ 128
      below = subst (λ (t : ℕ). t < 2 ^ 128) (sym kept.bits) (lt_of_lt_of_le (lanes-lt n k f lt) (pow_mono h))

      none : acc.top ≡ 0
      none = unfold words in top-zero base acc.low acc.high acc.top below

-- the place of a lane of w bits, if w divides 64
pub in-word : (w x : ℕ) → 0 < w → w * (64 / w) ≡ 64 → w * x % 64 + w ≤ 64
in-word w x h e =
    let q : 0 < 64 / w = some_of (64 / w) e in
    let m : w * x % 64 ≡ x % (64 / w) * w =
    ap₂ ◌%◌ (mul_comm w x) (sym e ∙ mul_comm w (64 / w)) ∙ mod-mul (x * w) q h
    ∙ ap₂ (λ (s t : ℕ). s % (64 / w) * w + t) (mul-div_cancel x h) (mul-mod_left x w) ∙ add-zero (x % (64 / w) * w) in
    let l : w * suc (x % (64 / w)) ≤ w * (64 / w) = mul-le-mul_left w (mod-lt x q) in
    omega (arith, mul-suc w (x % (64 / w)), mul_comm w (x % (64 / w)))
  where
    some_of : (q : ℕ) → w * q ≡ 64 → 0 < q
    some_of zero e = absurd (omega (arith, mul-zero w))
    some_of (suc q) e = omega arith

pub at_most : (w : ℕ) → w * (64 / w) ≡ 64 → w ≤ 64
at_most w e = go (64 / w) e
  where
    go : (q : ℕ) → w * q ≡ 64 → w ≤ 64
    go zero e = absurd (omega (arith, mul-zero w))
    go (suc q) e = omega (arith, mul-suc w q)

pub all_in : (n k : ℕ) → ((j : ℕ) → j < k → n * j + n ≤ 128) → n * k ≤ 128
all_in n zero h = omega (arith, mul-zero n)
all_in n (suc k) h = omega (arith, mul-suc n k, h k (omega arith))

-- ---- registers
written_at : (ws : List ℕ) (d : ℕ) (x : Register) → length ws ≡ 64 → d < 32 → (r : ℕ) → r < 32 → (t : Bool) → eqb r d ≡ t
    → registers_of (set (set ws (2 * d) x.low) (2 * d + 1) x.high) r ≡ cond t (number x) (registers_of ws r)
written_at ws d x n h r l true e =
    let q : r ≡ d = eqb-true r d e in
    rw q
    (ap₂ (λ (a b : ℕ). words a b 0)
    (get_or-set_other (set ws (2 * d) x.low) (2 * d + 1) (2 * d) x.high 0 (omega arith) ∙ get_or-set_same ws (2 * d) x.low 0 (omega arith))
    (get_or-set_same (set ws (2 * d) x.low) (2 * d + 1) x.high 0 (rw (length-set ws (2 * d) x.low) (omega arith))))
written_at ws d x n h r l false e =
    let q = eqb-false r d e in
    ap₂ (λ (a b : ℕ). words a b 0)
    (get_or-set_other (set ws (2 * d) x.low) (2 * d + 1) (2 * r) x.high 0 (λ i. q (omega arith)) ∙ get_or-set_other ws (2 * d) (2 * r) x.low 0 (λ i. q (omega arith)))
    (get_or-set_other (set ws (2 * d) x.low) (2 * d + 1) (2 * r + 1) x.high 0 (λ i. q (omega arith)) ∙ get_or-set_other ws (2 * d) (2 * r + 1) x.low 0 (λ i. q (omega arith)))

pub written : (ws : List ℕ) (d : ℕ) (x : Register) → length ws ≡ 64 → d < 32 → Written ws (set (set ws (2 * d) x.low) (2 * d + 1) x.high) d (number x)
written ws d x n h r l = written_at ws d x n h r l (eqb r d) refl

-- ---- a lane, of the lanes that are read
pub le-times : (m x : ℕ) → 0 < m → x ≤ m * x
le-times m x h = omega (arith, mul-le-mul_right x h)

pub answers_at : (op : NeonOp) (n : ℕ) {x y z x' y' z' bits : ℕ} {saturated : Bool} → x ≡ x' → y ≡ y' → z ≡ z'
    → Answers (family_lane op n x y z) (family_beyond op n x y z) bits saturated
    → Answers (family_lane op n x' y' z') (family_beyond op n x' y' z') bits saturated
answers_at op n {x} {y} {z} {x'} {y'} {z'} e f g p = record {
  bits_are = p.bits_are ∙ ap₂ (λ (s t : ℕ). family_lane op n s t z) e f ∙ ap (family_lane op n x' y') g;
  saturated_is = p.saturated_is ∙ ap₂ (λ (s t : ℕ). family_beyond op n s t z) e f ∙ ap (family_beyond op n x' y') g;
}

pub lane-by-lt : (op : NeonOp) (n m skip : ℕ) (element : Bool) (index d a b : ℕ) → 0 < n → n ≤ 64 → m ≡ source_of op n → RowIn op n → (j : ℕ)
    → lane_by op n m skip element index d a b j < 2 ^ n
lane-by-lt op n m skip element index d a b hn h64 e r j =
    family-lt n (lane n j d) (lane m (j + skip) a) (lane m (second_at element index skip j) b) hn h64 (lane-lt n j d) op
    (subst (λ (t : ℕ). lane m (j + skip) a < 2 ^ t) e (lane-lt m (j + skip) a)) r

-- ---- halves
pub low_half : (x y : ℕ) → x < base → words x 0 0 ≡ words x y 0 % 2 ^ 64
unfolding words
low_half x y h = omega arith ∙ sym (low-cut x (y + base * 0) 64 (omega arith) ∙ mod-eq_of_lt h)

pub above-is : (xl xh dl dh : ℕ) → dl < base → words xl xh 0 < 2 ^ 64 → words dl xl 0 ≡ words xl xh 0 * 2 ^ 64 + words dl dh 0 % 2 ^ 64
unfolding words
above-is xl xh dl dh h l =
    let none : xh ≡ 0 = top_of xh l in
    rw none (omega (arith, low-cut dl (dh + base * 0) 64 (omega arith), mod-eq_of_lt h))
  where
    top_of : (t : ℕ) → xl + base * (t + base * 0) < 2 ^ 64 → t ≡ 0
    top_of zero l = refl
    top_of (suc t) l = absurd (omega arith)
