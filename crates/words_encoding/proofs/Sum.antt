-- A legal record's word is the sum of its parts. Assumes nothing.
use mathlib.Core.Path.{◌≡◌, refl}
use mathlib.Core.Bool.{Bool, true, cond, ◌&&◌, false≢true}
use Prim.Native.Nat.{ℕ, zero, suc, ◌+◌, ◌-◌, ◌*◌, ◌/◌, ◌%◌, ◌≤◌, ◌<◌}
use native.Mathlib.Omega.{arith}
use lib.Dec.{ltb, leb}
use borrow.Author.Tests.{ltb-true}
use Rattle.facts.proofs.Tests.{bit-true}
use Rattle.facts.proofs.Table.{tabulate, agree}
use Rattle.neon.specs.declared.Instruction.{Instruction}
use Rattle.neon.specs.Op.{Op, operations, op_at, Arrangement, B8, B16, H4, H8, S2, S4, D2, arrangements, arrangement_at, bits_of_lane}
use Rattle.neon.specs.Form.{Lanes, Same, Narrow, Long, Immediate, None, Left, Right, Element, is_element, form, has_form}
use Rattle.neon.specs.Refusal.{Legal}
use Rattle.neon.proofs.Legal.{accepted}
use Rattle.words_encoding.specs.Encoding.{Class, ShiftByImmediate, ThreeSame, ThreeDifferent, TwoMiscellaneous, ByElement, TwoMiscellaneous01, encoding}
use Rattle.terms.specs.Value.{bit}
use Rattle.words_encoding.specs.Word.{word, diagram, Qof, size, immhb, Hof, Lof, Mof, Rmof, encode_of, encode}
use Rattle.words_encoding.specs.Parts.{upper_bit, is_long, fixed_of, view_part, size_part, place_part}
use Rattle.words_encoding.proofs.Operations.{same_bit, same_bits, is-01, at_each, is_none, is_shift, immediate_is, tied_at, place, element-at}
use Rattle.words_encoding.proofs.Reading.{most}
use Rattle.words_encoding.proofs.Back.{most-is}

-- ---- tables

abbrev small : Op → Bool
small o = ltb (fixed_of o) 2147483648

all_small : tabulate (λ k. bit (small (op_at (suc k)))) 0 67 ≡ tabulate (λ k. 1) 0 67
unfolding tabulate op_at operations fixed_of
all_small = refl

pub fixed-fits : (k : ℕ) → 1 ≤ k → k ≤ 67 → fixed_of (op_at k) < 2147483648
fixed-fits k l h = ltb-true _ _ (at_each small all_small k l h)

abbrev long : ℕ → ℕ
long k = bit (same_bit (leb 42 (suc k) && leb (suc k) 53) (is_long (form (op_at (suc k))).lanes))

all-long : tabulate long 0 67 ≡ tabulate (λ k. 1) 0 67
unfolding tabulate op_at operations
all-long = refl

pub long-is : (k : ℕ) → 1 ≤ k → k ≤ 67 → (leb 42 k && leb k 53) ≡ is_long (form (op_at k)).lanes
long-is zero l h = absurd (omega arith)
long-is (suc k) l h = same_bits _ _ (bit-true _ (agree long (λ k. 1) 67 all-long k (omega arith)))

-- RBIT has lanes of 8 bits
abbrev reversed : ℕ → ℕ
reversed j =
    let o = op_at (suc (j / 7)) in
    let v = arrangement_at (j % 7) in
    cond (has_form o v && is-01 (encoding o).class) (size (form o).lanes v) 0

all-reversed : tabulate reversed 0 469 ≡ tabulate (λ j. 0) 0 469
unfolding tabulate op_at operations arrangement_at arrangements
all-reversed = refl

reversed-size : (k a : ℕ) → 1 ≤ k → k ≤ 67 → a ≤ 6 → let o = op_at k in let v = arrangement_at a in has_form o v ≡ true → (encoding o).class ≡ TwoMiscellaneous01 → size (form o).lanes v ≡ 0
reversed-size zero a l h g f c = absurd (omega arith)
reversed-size (suc k) a l h g f c =
    let e = agree reversed (λ j. 0) 469 all-reversed (7 * k + a) (omega arith) in
    rw (f, c) at (simp ((place k a g).0, (place k a g).1) at e)

-- ---- Q

Q-sum : (l : Lanes) (v : Arrangement) → 1073741824 * Qof l v ≡ 1073741824 * upper_bit l + view_part l v
Q-sum Same v = omega arith
Q-sum Narrow v = omega arith
Q-sum (Long u) v = omega arith

-- ---- the classes

none-place : (K : Immediate) (b s i m : ℕ) → is_none K ≡ true → place_part K b s i m ≡ s + 65536 * m
none-place None b s i m h = refl
none-place Left b s i m h = absurd (false≢true h)
none-place Right b s i m h = absurd (false≢true h)
none-place Element b s i m h = absurd (false≢true h)

shift-place : (K : Immediate) (b s i m : ℕ) → is_shift K ≡ true → place_part K b s i m ≡ 65536 * immhb K b i
shift-place None b s i m h = absurd (false≢true h)
shift-place Left b s i m h = refl
shift-place Right b s i m h = refl
shift-place Element b s i m h = absurd (false≢true h)

element_place : (K : Immediate) (v : Arrangement) (s i m : ℕ) → is_element K ≡ true → 32 ≤ bits_of_lane v
    → place_part K (bits_of_lane v) s i m ≡ s + 2097152 * Lof (bits_of_lane v) i + 1048576 * Mof (bits_of_lane v) i m + 65536 * Rmof (bits_of_lane v) m + 2048 * Hof (bits_of_lane v) i
element_place None v s i m h g = absurd (false≢true h)
element_place Left v s i m h g = absurd (false≢true h)
element_place Right v s i m h g = absurd (false≢true h)
element_place Element B8 s i m h g = absurd (omega arith)
element_place Element B16 s i m h g = absurd (omega arith)
element_place Element H4 s i m h g = absurd (omega arith)
element_place Element H8 s i m h g = absurd (omega arith)
element_place Element S2 s i m h g = omega arith
element_place Element S4 s i m h g = omega arith
element_place Element D2 s i m h g = omega arith

module _ (l : Lanes) (K : Immediate) (v : Arrangement) (U x i d n m : ℕ) where
  abbrev made : Class → ℕ
  made cl = let b = bits_of_lane v in word (diagram cl (Qof l v) U (size l v) (immhb K b i) x (Hof b i) (Lof b i) (Mof b i m) (Rmof b m) m n d)

  abbrev parts : Class → ℕ
  parts cl = word (diagram cl (upper_bit l) U 0 0 x 0 0 0 0 0 0 0) + view_part l v + place_part K (bits_of_lane v) (size_part l v) i m + 32 * n + d

  sum : (cl : Class) → immediate_is cl K ≡ true → m ≤ most cl (bits_of_lane v) → (cl ≡ ByElement → 32 ≤ bits_of_lane v) → (cl ≡ TwoMiscellaneous01 → size l v ≡ 0) → made cl ≡ parts cl
  sum ShiftByImmediate h hm g z = omega (arith, Q-sum l v, shift-place K (bits_of_lane v) (size_part l v) i m h)
  sum ThreeSame h hm g z = omega (arith, Q-sum l v, none-place K (bits_of_lane v) (size_part l v) i m h)
  sum ThreeDifferent h hm g z = omega (arith, Q-sum l v, none-place K (bits_of_lane v) (size_part l v) i m h)
  sum TwoMiscellaneous h hm g z = omega (arith, Q-sum l v, none-place K (bits_of_lane v) (size_part l v) i m h)
  sum ByElement h hm g z = omega (arith, Q-sum l v, element_place K v (size_part l v) i m h (g refl))
  sum TwoMiscellaneous01 h hm g z = omega (arith, Q-sum l v, none-place K (bits_of_lane v) (size_part l v) i m h, z refl)

-- the word of a legal record
pub encode-sum : (c : Instruction) → Legal c → let o = op_at c.operation in let v = arrangement_at c.arrangement in
    encode c ≡ fixed_of o + view_part (form o).lanes v + place_part (form o).immediate (bits_of_lane v) (size_part (form o).lanes v) c.i c.m + 32 * c.n + c.d
unfolding encode_of fixed_of
encode-sum c legal =
    let a = accepted c legal in
    let f = a.form_of in
    let k = c.operation in
    let o = op_at k in
    let v = arrangement_at c.arrangement in
    let t = tied_at k f.from_one f.to_last in
    sum (form o).lanes (form o).immediate v (encoding o).U (encoding o).opcode c.i c.d c.n c.m (encoding o).class t.immediate-is (most-is o v t c.m a.at-m)
    (element-at k c.arrangement f.from_one f.to_last f.arranged f.row)
    (reversed-size k c.arrangement f.from_one f.to_last f.arranged f.row)
