-- A pool's node: four words, and what they hold (document 01, "Pool").
use Rattle.std.specs.Prelude.{List, [], ◌∷◌, ◌≡◌, refl, length, get_or, set}
use Prim.Native.Nat.{ℕ, ◌+◌, ◌*◌, ◌/◌, ◌%◌}
use Rattle.terms.specs.declared.BinOp.{BinOp}
use Rattle.terms.specs.declared.BinOp.TheVariants.{Add, Sub, Mul, And, Or, Xor, Shl, LShr, AShr}
use Rattle.terms.specs.declared.CmpOp.{CmpOp}
use Rattle.terms.specs.declared.CmpOp.TheVariants.{Eq, Ult, Slt}

-- the kinds, those of one rule together; `bad` is none of them
pub data Kind : Type 0 where
  bad var const : Kind
  bv : BinOp → Kind
  compare : CmpOp → Kind
  ite extract concat zext sext : Kind

-- in order, `bad` for 0: Var is 1, SignExtend is 19
unfoldable pub kinds : List Kind
kinds =
    bad ∷ var ∷ const ∷ bv Add ∷ bv Sub ∷ bv Mul ∷ bv And ∷ bv Or ∷ bv Xor ∷ bv Shl ∷ bv LShr ∷ bv AShr ∷ compare Eq ∷ compare Ult ∷ compare Slt ∷
    ite ∷ extract ∷ concat ∷ zext ∷ sext ∷ []

unfoldable pub kind_at : ℕ → Kind
kind_at k = get_or kinds k bad

-- the numbers of the operators
abbrev pub bv_code : BinOp → ℕ
bv_code Add = 3
bv_code Sub = 4
bv_code Mul = 5
bv_code And = 6
bv_code Or = 7
bv_code Xor = 8
bv_code Shl = 9
bv_code LShr = 10
bv_code AShr = 11

abbrev pub compare_code : CmpOp → ℕ
compare_code Eq = 12
compare_code Ult = 13
compare_code Slt = 14

-- a kind's number
abbrev pub code_of : Kind → ℕ
code_of bad = 0
code_of var = 1
code_of const = 2
code_of (bv o) = bv_code o
code_of (compare o) = compare_code o
code_of ite = 15
code_of extract = 16
code_of concat = 17
code_of zext = 18
code_of sext = 19

-- the kinds of the operators' numbers, as antt computes: nothing here has to be believed
pub bv_kind : (o : BinOp) → kind_at (bv_code o) ≡ bv o
unfolding kind_at kinds
bv_kind Add = refl
bv_kind Sub = refl
bv_kind Mul = refl
bv_kind And = refl
bv_kind Or = refl
bv_kind Xor = refl
bv_kind Shl = refl
bv_kind LShr = refl
bv_kind AShr = refl

pub compare_kind : (o : CmpOp) → kind_at (compare_code o) ≡ compare o
unfolding kind_at kinds
compare_kind Eq = refl
compare_kind Ult = refl
compare_kind Slt = refl

-- word 0: kind + 65,536 × width + 2^32 × set; bit r of the set is for register r
abbrev pub kind_word : ℕ → ℕ → ℕ → ℕ
kind_word k w s = k + 65536 * w + 4294967296 * s

abbrev pub kind_of : ℕ → ℕ
kind_of w0 = w0 % 65536

abbrev pub width_of : ℕ → ℕ
width_of w0 = w0 / 65536 % 65536

abbrev pub set_of : ℕ → ℕ
set_of w0 = w0 / 4294967296

-- word 1: A + 2^16 × B + 2^32 × C. C takes all from bit 32 on, so that no bit goes unread.
abbrev pub operand_word : ℕ → ℕ → ℕ → ℕ
operand_word a b c = a + 65536 * b + 4294967296 * c

abbrev pub a_of : ℕ → ℕ
a_of w1 = w1 % 65536

abbrev pub b_of : ℕ → ℕ
b_of w1 = w1 / 65536 % 65536

abbrev pub c_of : ℕ → ℕ
c_of w1 = w1 / 4294967296

-- a constant's words 2 and 3 as one number
abbrev pub wide : ℕ → ℕ → ℕ
wide lo hi = lo + 18446744073709551616 * hi

-- word j of node n
abbrev pub word_at : List ℕ → ℕ → ℕ → ℕ
word_at ws n j = get_or ws (4 * n + j) 0

-- a node's parts: its kind, its width, its operands, and words 2 and 3
pub record Cell : Type 0 where
  pub kind : Kind
  pub width : ℕ
  pub a : ℕ
  pub b : ℕ
  pub c : ℕ
  pub x : ℕ
  pub y : ℕ

abbrev pub decode : ℕ → ℕ → ℕ → ℕ → Cell
decode w0 w1 w2 w3 = record { kind = kind_at (kind_of w0); width = width_of w0; a = a_of w1; b = b_of w1; c = c_of w1; x = w2; y = w3 }

abbrev pub cell_at : List ℕ → ℕ → Cell
cell_at ws n = decode (get_or ws (4 * n) 0) (get_or ws (4 * n + 1) 0) (get_or ws (4 * n + 2) 0) (get_or ws (4 * n + 3) 0)

abbrev pub kind_number : List ℕ → ℕ → ℕ
kind_number ws n = kind_of (get_or ws (4 * n) 0)

abbrev pub width_at : List ℕ → ℕ → ℕ
width_at ws n = (cell_at ws n).width

-- the set of the registers beneath node n
abbrev pub set_at : List ℕ → ℕ → ℕ
set_at ws n = set_of (get_or ws (4 * n) 0)

-- the words with those of node n written
abbrev pub write_node : List ℕ → ℕ → (w0 w1 w2 w3 : ℕ) → List ℕ
write_node ws n w0 w1 w2 w3 = set (set (set (set ws (4 * n) w0) (4 * n + 1) w1) (4 * n + 2) w2) (4 * n + 3) w3

-- the number that stands for no node; a pool has no more places
abbrev pub none : ℕ
none = 65535

-- how many nodes so many words have places for
abbrev pub places_in : ℕ → ℕ
places_in words = Prim.Native.Nat.min (words / 4) none

abbrev pub places : List ℕ → ℕ
places ws = places_in (length ws)
