-- Facts of the 67 operations, each by one computed test. Assumes nothing.
use mathlib.Core.Path.{◌≡◌, refl, sym}
use mathlib.Core.Bool.{Bool, true, false, cond, ◌&&◌, false≢true}
use Prim.Native.Nat.{ℕ, zero, suc, ◌+◌, ◌-◌, ◌*◌, ◌/◌, ◌%◌, ◌≤◌, ◌<◌}
use native.Mathlib.Omega.{arith}
use lib.Dec.{ltb, leb, eqb}
use borrow.Author.Tests.{leb-true, ltb-true}
use Rattle.facts.proofs.Table.{tabulate, agree}
use Rattle.facts.proofs.Tests.{bit-true}
use Rattle.facts.proofs.Tests.{and_both}
use Rattle.neon.specs.Op.{Op, operations, op_at, Arrangement, arrangements, arrangement_at, bits_of_lane}
use Rattle.neon.specs.Form.{Lanes, Immediate, None, Left, Right, Element, is_element, form, has_form, has_second, by_element}
use Rattle.words_encoding.specs.Encoding.{Class, ShiftByImmediate, ThreeSame, ThreeDifferent, TwoMiscellaneous, ByElement, TwoMiscellaneous01, encoding}
use Rattle.terms.specs.Value.{bit}
use Rattle.words_encoding.specs.Word.{Qof, size, size_of}
use Rattle.words_encoding.specs.Decode.{class_number, upper_is, operation_of, arrangement_of}

-- two flags that are the same, as a flag
abbrev pub same_bit : Bool → Bool → Bool
same_bit true b = b
same_bit false true = false
same_bit false false = true

pub same_bits : (a b : Bool) → same_bit a b ≡ true → a ≡ b
same_bits true b e = sym e
same_bits false true e = absurd (false≢true e)
same_bits false false e = refl

-- RBIT's class
abbrev pub is-01 : Class → Bool
is-01 ShiftByImmediate = false
is-01 ThreeSame = false
is-01 ThreeDifferent = false
is-01 TwoMiscellaneous = false
is-01 ByElement = false
is-01 TwoMiscellaneous01 = true

abbrev tested : (Op → Bool) → ℕ → ℕ
tested p k = bit (p (op_at (suc k)))

-- a test that every operation passes
pub at_each : (p : Op → Bool) → tabulate (tested p) 0 67 ≡ tabulate (λ k. 1) 0 67 → (k : ℕ) → 1 ≤ k → k ≤ 67 → p (op_at k) ≡ true
at_each p e zero l h = absurd (omega arith)
at_each p e (suc k) l h = bit-true (p (op_at (suc k))) (agree (tested p) (λ j. 1) 67 e k (omega arith))

-- ---- an operation is told by its class, U, opcode and Q

abbrev back : ℕ → ℕ → ℕ
back Q k =
    let o = op_at (suc k) in
    cond (upper_is (form o).lanes Q) (operation_of (class_number (encoding o).class) Q (encoding o).U (encoding o).opcode 67) (suc k)

back-0 : tabulate (back 0) 0 67 ≡ tabulate suc 0 67
unfolding tabulate operation_of op_at operations
back-0 = refl

back-1 : tabulate (back 1) 0 67 ≡ tabulate suc 0 67
unfolding tabulate operation_of op_at operations
back-1 = refl

pub found : (k Q : ℕ) → 1 ≤ k → k ≤ 67 → Q ≤ 1 → upper_is (form (op_at k)).lanes Q ≡ true
    → operation_of (class_number (encoding (op_at k)).class) Q (encoding (op_at k)).U (encoding (op_at k)).opcode 67 ≡ k
found zero Q l h q u = absurd (omega arith)
found (suc k) zero l h q u = rw u at (agree (back 0) suc 67 back-0 k (omega arith))
found (suc k) (suc zero) l h q u = rw u at (agree (back 1) suc 67 back-1 k (omega arith))
found (suc k) (suc (suc Q)) l h q u = absurd (omega arith)

-- ---- what a class says of the form

abbrev pub is_none : Immediate → Bool
is_none None = true
is_none Left = false
is_none Right = false
is_none Element = false

abbrev pub is_shift : Immediate → Bool
is_shift None = false
is_shift Left = true
is_shift Right = true
is_shift Element = false

abbrev pub immediate_is : Class → Immediate → Bool
immediate_is ShiftByImmediate K = is_shift K
immediate_is ThreeSame K = is_none K
immediate_is ThreeDifferent K = is_none K
immediate_is TwoMiscellaneous K = is_none K
immediate_is ByElement K = is_element K
immediate_is TwoMiscellaneous01 K = is_none K

abbrev pub second_operand_is : Class → Bool
second_operand_is ShiftByImmediate = false
second_operand_is ThreeSame = true
second_operand_is ThreeDifferent = true
second_operand_is TwoMiscellaneous = false
second_operand_is ByElement = true
second_operand_is TwoMiscellaneous01 = false

abbrev pub opcode_bits : Class → ℕ
opcode_bits ShiftByImmediate = 32
opcode_bits ThreeSame = 32
opcode_bits ThreeDifferent = 16
opcode_bits TwoMiscellaneous = 32
opcode_bits ByElement = 16
opcode_bits TwoMiscellaneous01 = 32

abbrev tied : Op → Bool
tied o =
    let e = encoding o in
    (leb e.U 1 && ltb e.opcode (opcode_bits e.class))
    && (immediate_is e.class (form o).immediate && (same_bit (has_second o) (second_operand_is e.class) && same_bit (by_element o) (eqb (class_number e.class) 3)))

all-tied : tabulate (tested tied) 0 67 ≡ tabulate (λ k. 1) 0 67
unfolding tabulate op_at operations
all-tied = refl

pub record Tied (o : Op) : Type 0 where
  pub U-fits : (encoding o).U ≤ 1
  pub opcode-fits : (encoding o).opcode < opcode_bits (encoding o).class
  pub immediate-is : immediate_is (encoding o).class (form o).immediate ≡ true
  pub second_is : has_second o ≡ second_operand_is (encoding o).class
  pub element-is : by_element o ≡ eqb (class_number (encoding o).class) 3

pub tied_at : (k : ℕ) → 1 ≤ k → k ≤ 67 → Tied (op_at k)
tied_at k l h =
    let o = op_at k in
    let e = encoding o in
    let p = and_both (leb e.U 1 && ltb e.opcode (opcode_bits e.class)) _ (at_each tied all-tied k l h) in
    let q = and_both (leb e.U 1) _ p.0 in
    let r = and_both (immediate_is e.class (form o).immediate) _ p.1 in
    let t = and_both (same_bit (has_second o) (second_operand_is e.class)) _ r.1 in
    record {
      U-fits = leb-true _ _ q.0;
      opcode-fits = ltb-true _ _ q.1;
      immediate-is = r.0;
      second_is = same_bits (has_second o) (second_operand_is e.class) t.0;
      element-is = same_bits (by_element o) (eqb (class_number e.class) 3) t.1;
    }

-- ---- the arrangement of a form, from its fields

abbrev pub size_back : Class → Lanes → Arrangement → ℕ
size_back ShiftByImmediate l v = size_of v
size_back ThreeSame l v = size l v
size_back ThreeDifferent l v = size l v
size_back TwoMiscellaneous l v = size l v
size_back ByElement l v = size l v
size_back TwoMiscellaneous01 l v = 0

abbrev arranged : ℕ → ℕ
arranged j =
    let o = op_at (suc (j / 7)) in
    let v = arrangement_at (j % 7) in
    let l = (form o).lanes in
    cond (has_form o v) (arrangement_of l (Qof l v) (size_back (encoding o).class l v)) (j % 7)

arranged-all : tabulate arranged 0 469 ≡ tabulate (λ j. j % 7) 0 469
unfolding tabulate op_at operations arrangement_at arrangements
arranged-all = refl

-- an element has 16 bits or 32
abbrev elements : ℕ → ℕ
elements j =
    let o = op_at (suc (j / 7)) in
    let v = arrangement_at (j % 7) in
    cond (has_form o v && eqb (class_number (encoding o).class) 3) (bit (leb 32 (bits_of_lane v))) 1

elements-all : tabulate elements 0 469 ≡ tabulate (λ j. 1) 0 469
unfolding tabulate op_at operations arrangement_at arrangements
elements-all = refl

pub place : (k a : ℕ) → a ≤ 6 → ((7 * k + a) / 7 ≡ k) × ((7 * k + a) % 7 ≡ a)
place k a h = (omega arith, omega arith)

pub arranged-at : (k a : ℕ) → 1 ≤ k → k ≤ 67 → a ≤ 6 → let o = op_at k in let v = arrangement_at a in let l = (form o).lanes in has_form o v ≡ true
    → arrangement_of l (Qof l v) (size_back (encoding o).class l v) ≡ a
arranged-at zero a l h g f = absurd (omega arith)
arranged-at (suc k) a l h g f =
    let e = agree arranged (λ j. j % 7) 469 arranged-all (7 * k + a) (omega arith) in
    rw f at (simp ((place k a g).0, (place k a g).1) at e)

pub element-at : (k a : ℕ) → 1 ≤ k → k ≤ 67 → a ≤ 6 → let o = op_at k in let v = arrangement_at a in has_form o v ≡ true → (encoding o).class ≡ ByElement → 32 ≤ bits_of_lane v
element-at zero a l h g f c = absurd (omega arith)
element-at (suc k) a l h g f c =
    let e = agree elements (λ j. 1) 469 elements-all (7 * k + a) (omega arith) in
    leb-true _ _ (bit-true _ (rw (f, c) at (simp ((place k a g).0, (place k a g).1) at e)))
