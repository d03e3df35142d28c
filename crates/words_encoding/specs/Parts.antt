-- A word as a sum: the fixed bits of its operation, and the fields that a record sets.
use Rattle.std.specs.Prelude.{Bool, true, false, cond, ◌||◌, ℕ, ◌+◌, ◌-◌, ◌*◌, ◌/◌, ◌%◌, eqb}
use Rattle.neon.specs.Op.{Op, Arrangement, full}
use Rattle.neon.specs.Form.{Lanes, Same, Narrow, Long, Immediate, None, Left, Right, Element, form}
use Rattle.words_encoding.specs.Encoding.{encoding}
use Rattle.words_encoding.specs.Decode.{bits}
use Rattle.terms.specs.Value.{bit}
use Rattle.words_encoding.specs.Word.{word, diagram, size}

abbrev pub upper_bit : Lanes → ℕ
upper_bit Same = 0
upper_bit Narrow = 0
upper_bit (Long u) = bit u

abbrev pub is_long : Lanes → Bool
is_long Same = false
is_long Narrow = false
is_long (Long u) = true

-- all fields 0 but U, opcode, and Q if it tells upper lanes
unfoldable pub fixed_of : Op → ℕ
fixed_of o = let e = encoding o in word (diagram e.class (upper_bit (form o).lanes) e.U 0 0 e.opcode 0 0 0 0 0 0 0)

-- Q, if it tells the view
abbrev pub view_part : Lanes → Arrangement → ℕ
view_part Same v = 1073741824 * bit (full v)
view_part Narrow v = 1073741824 * bit (full v)
view_part (Long u) v = 0

abbrev pub size_part : Lanes → Arrangement → ℕ
size_part l v = 4194304 * size l v

-- H, L and M, if M belongs to the number
abbrev pub element_part : (n i : ℕ) → ℕ
element_part n i = cond (eqb n 32) (2048 * (i / 4) + 2097152 * (i / 2 % 2) + 1048576 * (i % 2)) (2048 * (i / 2) + 2097152 * (i % 2))

-- the fields that go by the immediate; s has the field size in its place
abbrev pub place_part : Immediate → (n s i m : ℕ) → ℕ
place_part None n s i m = s + 65536 * m
place_part Left n s i m = 65536 * (n + i)
place_part Right n s i m = 65536 * (2 * n - i)
place_part Element n s i m = s + 65536 * m + element_part n i

-- the place of the fields of a word of class c in the table of operations: Q, U and an opcode of 4 bits, or U and one of 5
abbrev pub key_of : ℕ → ℕ → ℕ
key_of c w =
    cond (eqb c 0 || eqb c 3) (32 * bits 30 30 w + 16 * bits 29 29 w + bits 15 12 w)
    (cond (eqb c 2) (32 * bits 29 29 w + bits 16 12 w) (32 * bits 29 29 w + bits 15 11 w))
