-- The rules of a pool (document 01, "Pool"), as one test: the pool check's answer.
use Rattle.std.specs.Prelude.{Bool, true, false, ◌&&◌, List, ◌≡◌, ℕ, zero, suc, ◌+◌, ◌-◌, ◌^◌, ltb, leb, eqb}
use Rattle.std.specs.Int.Bits.{bit_or}
use Rattle.facts.specs.Refuse.{unless}
use Rattle.pool.specs.Node.{Kind, bad, var, const, bv, compare, ite, extract, concat, zext, sext, Cell, cell_at, width_at, set_at, wide, places}

-- 1 to 129, the widths of a vector term
abbrev pub wide_is_ok : ℕ → Bool
wide_is_ok w = leb 1 w && leb w 129

-- the width of the operand m of node n, 0 if m is no smaller number: every rule refuses such an operand by itself
abbrev pub if_earlier : Bool → ℕ → ℕ
if_earlier true w = w
if_earlier false w = 0

abbrev pub width_before : List ℕ → ℕ → ℕ → ℕ
width_before ws n m = if_earlier (ltb m n) (width_at ws m)

-- node n, the cell k, keeps the rules of its kind; A, B and C are the widths of its operands
abbrev pub ok_kind : Kind → ℕ → Cell → ℕ → ℕ → ℕ → Bool
ok_kind bad n k A B C = false
ok_kind var n k A B C = eqb k.width 128 && eqb k.a 0 && eqb k.b 0 && eqb k.c 0 && ltb k.x 32 && eqb k.y 0
ok_kind const n k A B C = wide_is_ok k.width && eqb k.a 0 && eqb k.b 0 && eqb k.c 0 && ltb (wide k.x k.y) (2 ^ k.width)
ok_kind (bv o) n k A B C =
    wide_is_ok k.width && ltb k.a n && ltb k.b n && eqb k.c 0 && eqb k.x 0 && eqb k.y 0 && eqb A k.width && eqb B k.width
ok_kind (compare o) n k A B C = eqb k.width 0 && ltb k.a n && ltb k.b n && eqb k.c 0 && eqb k.x 0 && eqb k.y 0 && leb 1 A && eqb B A
ok_kind ite n k A B C =
    wide_is_ok k.width && ltb k.a n && ltb k.b n && ltb k.c n && eqb k.x 0 && eqb k.y 0 && eqb A 0 && eqb B k.width && eqb C k.width
ok_kind extract n k A B C = ltb k.a n && eqb k.b 0 && eqb k.c 0 && leb k.y k.x && ltb k.x A && eqb k.width (k.x - k.y + 1)
ok_kind concat n k A B C =
    wide_is_ok k.width && ltb k.a n && ltb k.b n && eqb k.c 0 && eqb k.x 0 && eqb k.y 0 && leb 1 A && leb 1 B && eqb k.width (A + B)
ok_kind zext n k A B C = wide_is_ok k.width && ltb k.a n && eqb k.b 0 && eqb k.c 0 && eqb k.x 0 && eqb k.y 0 && leb 1 A && leb A k.width
ok_kind sext n k A B C = wide_is_ok k.width && ltb k.a n && eqb k.b 0 && eqb k.c 0 && eqb k.x 0 && eqb k.y 0 && leb 1 A && leb A k.width

abbrev pub ok_cell : List ℕ → ℕ → Cell → Bool
ok_cell ws n k = ok_kind k.kind n k (width_before ws n k.a) (width_before ws n k.b) (width_before ws n k.c)

-- the registers beneath a node, over the sets of its operands
abbrev pub set_over : Kind → (x A B C : ℕ) → ℕ
set_over bad x A B C = 0
set_over var x A B C = 2 ^ x
set_over const x A B C = 0
set_over (bv o) x A B C = bit_or A B
set_over (compare o) x A B C = bit_or A B
set_over ite x A B C = bit_or (bit_or A B) C
set_over extract x A B C = A
set_over concat x A B C = bit_or A B
set_over zext x A B C = A
set_over sext x A B C = A

-- the set of the operand m of node n, as its width
abbrev pub set_before_block : List ℕ → ℕ → ℕ → ℕ
set_before_block ws n m = if_earlier (ltb m n) (set_at ws m)

abbrev pub set_rule : List ℕ → ℕ → Cell → ℕ
set_rule ws n k = set_over k.kind k.x (set_before_block ws n k.a) (set_before_block ws n k.b) (set_before_block ws n k.c)

abbrev pub ok_node : List ℕ → ℕ → Bool
ok_node ws n = ok_cell ws n (cell_at ws n) && eqb (set_at ws n) (set_rule ws n (cell_at ws n))

-- every node below count keeps the rules
unfoldable pub ok_pool : List ℕ → ℕ → Bool
ok_pool ws zero = true
ok_pool ws (suc n) = ok_pool ws n && ok_node ws n

abbrev pub Valid : List ℕ → ℕ → Type 0
Valid ws count = ok_pool ws count ≡ true

-- the answer of the pool check
abbrev pub pool_ok : List ℕ → ℕ → Bool
pool_ok ws count = leb count (places ws) && ok_pool ws count

-- what is asked of a node: 1 for a bad pool, 5 for a node not below the count; else what follows
abbrev pub node_number : List ℕ → (count n rest : ℕ) → ℕ
node_number ws count n rest = unless (pool_ok ws count) 1 (unless (ltb n count) 5 rest)

-- whether there is a node n, and it has so many bits
abbrev pub of_width : List ℕ → (count n bits : ℕ) → Bool
of_width ws count n bits = ltb n count && eqb (width_at ws n) bits
