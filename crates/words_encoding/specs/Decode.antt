-- The record of an A64 word, by the word's fields.
use Rattle.std.specs.Prelude.{Bool, true, false, cond, ◌&&◌, ℕ, zero, suc, ◌+◌, ◌-◌, ◌*◌, ◌/◌, ◌%◌, ◌^◌, min, ltb, eqb, Option, Some, None as none}
use Rattle.neon.specs.declared.Instruction.{Instruction}
use Rattle.neon.specs.Op.{Op, op_at, arrangement_at, bits_of_lane}
use Rattle.neon.specs.Form.{Lanes, Same, Narrow, Long, Immediate, None, Left, Right, Element, form, has_second, by_element}
use Rattle.neon.specs.Refusal.{record_number}
use Rattle.words_encoding.specs.Encoding.{Class, ShiftByImmediate, ThreeSame, ThreeDifferent, TwoMiscellaneous, ByElement, TwoMiscellaneous01, encoding}
use Rattle.terms.specs.Value.{bit}
use Rattle.words_encoding.specs.Word.{encode}

-- bits hi to lo of w, the manual's w<hi:lo>
abbrev pub bits : ℕ → ℕ → ℕ → ℕ
bits hi lo w = w / 2 ^ lo % 2 ^ suc (hi - lo)

-- the five classes by number
abbrev pub class_number : Class → ℕ
class_number ThreeDifferent = 0
class_number ThreeSame = 1
class_number TwoMiscellaneous = 2
class_number TwoMiscellaneous01 = 2
class_number ByElement = 3
class_number ShiftByImmediate = 4

-- bits 24, 11 and 10 tell a class
abbrev pub class_at : ℕ → ℕ
class_at w = cond (eqb (bits 24 24 w) 1) (3 + bits 10 10 w) (cond (eqb (bits 10 10 w) 1) 1 (2 * bits 11 11 w))

abbrev pub opcode_at : ℕ → ℕ → ℕ
opcode_at zero w = bits 15 12 w
opcode_at (suc zero) w = bits 15 11 w
opcode_at (suc (suc zero)) w = bits 16 12 w
opcode_at (suc (suc (suc zero))) w = bits 15 12 w
opcode_at (suc (suc (suc (suc c)))) w = bits 15 11 w

-- Q tells the long operations of the upper lanes from those of the lower
abbrev pub upper_is : Lanes → ℕ → Bool
upper_is Same Q = true
upper_is Narrow Q = true
upper_is (Long u) Q = eqb (bit u) Q

abbrev pub is_coded : (c Q U opcode : ℕ) → Op → Bool
is_coded c Q U x o =
    eqb (class_number (encoding o).class) c && eqb (encoding o).U U && eqb (encoding o).opcode x && upper_is (form o).lanes Q

-- the operation of a class with these fields, the last of the first k; 0 if there is none
unfoldable pub operation_of : (c Q U opcode k : ℕ) → ℕ
operation_of c Q U x zero = 0
operation_of c Q U x (suc k) = elim (is_coded c Q U x (op_at (suc k))) [ true ↦ suc k | false ↦ operation_of c Q U x k ]

-- the operation that the fields of w name
unfoldable pub operation_at : ℕ → ℕ
operation_at w = operation_of (class_at w) (bits 30 30 w) (bits 29 29 w) (opcode_at (class_at w) w) 67

-- the size that the highest bit of immh tells
abbrev pub size_of_immh : ℕ → ℕ
size_of_immh immh = cond (ltb immh 2) 0 (cond (ltb immh 4) 1 (cond (ltb immh 8) 2 3))

abbrev pub size_at : Class → ℕ → ℕ
size_at ThreeDifferent w = bits 23 22 w
size_at ThreeSame w = bits 23 22 w
size_at TwoMiscellaneous w = bits 23 22 w
size_at TwoMiscellaneous01 w = 0
size_at ByElement w = bits 23 22 w
size_at ShiftByImmediate w = size_of_immh (bits 22 19 w)

-- the arrangement's number
abbrev pub arrangement_of : Lanes → (Q size : ℕ) → ℕ
arrangement_of Same Q s = min (2 * s + Q) 6
arrangement_of Narrow Q s = min (2 * s + Q) 6
arrangement_of (Long u) Q s = min (2 * s + 3) 6

-- the number of an element
abbrev pub element_at : ℕ → ℕ → ℕ
element_at n w = cond (eqb n 32) (4 * bits 11 11 w + 2 * bits 21 21 w + bits 20 20 w) (2 * bits 11 11 w + bits 21 21 w)

abbrev pub immediate_at : Immediate → ℕ → ℕ → ℕ
immediate_at None n w = 0
immediate_at Left n w = bits 22 16 w - n
immediate_at Right n w = 2 * n - bits 22 16 w
immediate_at Element n w = element_at n w

abbrev pub second_at : Op → ℕ → ℕ → ℕ
second_at o n w = cond (has_second o) (cond (by_element o && eqb n 32) (bits 19 16 w) (bits 20 16 w)) 0

-- the record that the fields of w name
unfoldable pub fields_of : ℕ → Instruction
fields_of w =
    let Q = bits 30 30 w in
    let k = operation_at w in
    let o = op_at k in
    let a = arrangement_of (form o).lanes Q (size_at (encoding o).class w) in
    let n = bits_of_lane (arrangement_at a) in
    record { operation = k; arrangement = a; i = immediate_at (form o).immediate n w; d = bits 4 0 w; n = bits 9 5 w; m = second_at o n w }

abbrev pub decoded_if : Bool → Instruction → Option Instruction
decoded_if true c = Some c
decoded_if false c = none

-- w is the word of the legal record c: each field that c does not carry is then what the manual fixes
abbrev pub is_word_of : ℕ → Instruction → Bool
is_word_of w c = eqb (record_number c) 0 && eqb (encode c) w

-- the record that the fields name, if w is its word
unfoldable pub decode : ℕ → Option Instruction
decode w = decoded_if (is_word_of w (fields_of w)) (fields_of w)
