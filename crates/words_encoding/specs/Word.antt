-- The A64 word of a record: the manual's diagram of its class, with the fields of the record put in.
use Rattle.std.specs.Prelude.{cond, List, [], ◌∷◌, ℕ, ◌+◌, ◌-◌, ◌*◌, ◌/◌, ◌%◌, ◌^◌, eqb}
use Rattle.terms.specs.Value.{bit}
use Rattle.neon.specs.declared.Instruction.{Instruction}
use Rattle.neon.specs.Op.{Op, op_at, Arrangement, arrangement_at, B8, B16, H4, H8, S2, S4, D2, bits_of_lane, full}
use Rattle.neon.specs.Form.{Lanes, Same, Narrow, Long, Immediate, None, Left, Right, Element, form}
use Rattle.words_encoding.specs.Encoding.{Class, ShiftByImmediate, ThreeSame, ThreeDifferent, TwoMiscellaneous, ByElement, TwoMiscellaneous01, encoding}

-- a field of so many bits that holds x
pub record Field : Type 0 where
  pub bits : ℕ
  pub holds : ℕ

infix 70 ◌∶◌
abbrev pub ◌∶◌ : ℕ → ℕ → Field
w ∶ x = record { bits = w; holds = x }

-- fields side by side, below what is there already
abbrev pub below : ℕ → List Field → ℕ
below x [] = x
below x (f ∷ fs) = below (x * 2 ^ f.bits + f.holds) fs

-- the word of a diagram, from bit 31 down
abbrev pub word : List Field → ℕ
word fs = below 0 fs

-- ---- what the fields hold

-- Q: the view has 128 bits; of the long operations, the upper lanes are read
abbrev pub Qof : Lanes → Arrangement → ℕ
Qof Same v = bit (full v)
Qof Narrow v = bit (full v)
Qof (Long u) v = bit u

-- 8 bits 00, 16 bits 01, 32 bits 10, 64 bits 11
abbrev pub size_of : Arrangement → ℕ
size_of B8 = 0
size_of B16 = 0
size_of H4 = 1
size_of H8 = 1
size_of S2 = 2
size_of S4 = 2
size_of D2 = 3

-- size: of a destination lane, of the long operations a source lane, which has half its bits
abbrev pub size : Lanes → Arrangement → ℕ
size Same v = size_of v
size Narrow v = size_of v
size (Long u) v = size_of v - 1

-- immh:immb, with esize = n: esize + shift to the left, 2 * esize - shift to the right
abbrev pub immhb : Immediate → ℕ → ℕ → ℕ
immhb None n i = 0
immhb Left n i = n + i
immhb Right n i = 2 * n - i
immhb Element n i = 0

-- the number of an element is H:L:M if it has 16 bits, and H:L if it has 32; M:Rm is the register then
abbrev pub Hof : ℕ → ℕ → ℕ
Hof n i = cond (eqb n 32) (i / 4) (i / 2)

abbrev pub Lof : ℕ → ℕ → ℕ
Lof n i = cond (eqb n 32) (i / 2 % 2) (i % 2)

abbrev pub Mof : ℕ → ℕ → ℕ → ℕ
Mof n i m = cond (eqb n 32) (i % 2) (m / 16)

abbrev pub Rmof : ℕ → ℕ → ℕ
Rmof n m = cond (eqb n 32) m (m % 16)

-- ---- the diagrams

abbrev pub diagram : Class → (Q U size imm opcode H L M Rm m Rn Rd : ℕ) → List Field
diagram ShiftByImmediate Q U size imm opcode H L M Rm m Rn Rd =
    1 ∶ 0 ∷ 1 ∶ Q ∷ 1 ∶ U ∷ 6 ∶ 0b011110 ∷ 7 ∶ imm ∷ 5 ∶ opcode ∷ 1 ∶ 1 ∷ 5 ∶ Rn ∷ 5 ∶ Rd ∷ []
diagram ThreeSame Q U size imm opcode H L M Rm m Rn Rd =
    1 ∶ 0 ∷ 1 ∶ Q ∷ 1 ∶ U ∷ 5 ∶ 0b01110 ∷ 2 ∶ size ∷ 1 ∶ 1 ∷ 5 ∶ m ∷ 5 ∶ opcode ∷ 1 ∶ 1 ∷ 5 ∶ Rn ∷ 5 ∶ Rd ∷ []
diagram ThreeDifferent Q U size imm opcode H L M Rm m Rn Rd =
    1 ∶ 0 ∷ 1 ∶ Q ∷ 1 ∶ U ∷ 5 ∶ 0b01110 ∷ 2 ∶ size ∷ 1 ∶ 1 ∷ 5 ∶ m ∷ 4 ∶ opcode ∷ 2 ∶ 0b00 ∷ 5 ∶ Rn ∷ 5 ∶ Rd ∷ []
diagram TwoMiscellaneous Q U size imm opcode H L M Rm m Rn Rd =
    1 ∶ 0 ∷ 1 ∶ Q ∷ 1 ∶ U ∷ 5 ∶ 0b01110 ∷ 2 ∶ size ∷ 5 ∶ 0b10000 ∷ 5 ∶ opcode ∷ 2 ∶ 0b10 ∷ 5 ∶ Rn ∷ 5 ∶ Rd ∷ []
diagram ByElement Q U size imm opcode H L M Rm m Rn Rd =
    1 ∶ 0 ∷ 1 ∶ Q ∷ 1 ∶ U ∷ 5 ∶ 0b01111 ∷ 2 ∶ size ∷ 1 ∶ L ∷ 1 ∶ M ∷ 4 ∶ Rm ∷ 4 ∶ opcode ∷ 1 ∶ H ∷ 1 ∶ 0 ∷ 5 ∶ Rn ∷ 5 ∶ Rd ∷ []
diagram TwoMiscellaneous01 Q U size imm opcode H L M Rm m Rn Rd =
    1 ∶ 0 ∷ 1 ∶ Q ∷ 1 ∶ U ∷ 5 ∶ 0b01110 ∷ 2 ∶ 0b01 ∷ 5 ∶ 0b10000 ∷ 5 ∶ opcode ∷ 2 ∶ 0b10 ∷ 5 ∶ Rn ∷ 5 ∶ Rd ∷ []

unfoldable pub encode_of : Op → Arrangement → (i d n m : ℕ) → ℕ
encode_of o v i d n m =
    let e = encoding o in
    let l = (form o).lanes in
    let b = bits_of_lane v in
    word
    (diagram e.class (Qof l v) e.U (size l v) (immhb (form o).immediate b i) e.opcode (Hof b i) (Lof b i) (Mof b i m) (Rmof b m) m n d)

abbrev pub encode : Instruction → ℕ
encode c = encode_of (op_at c.operation) (arrangement_at c.arrangement) c.i c.d c.n c.m
