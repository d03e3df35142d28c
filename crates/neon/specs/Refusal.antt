-- The refusals of a record and of a block (document 01, "The numbers"): the first in order wins.
use Rattle.std.specs.Prelude.{Bool, true, false, cond, ◌&&◌, List, [], ◌∷◌, ◌≡◌, ℕ, zero, suc, ◌+◌, ◌*◌, ◌/◌, ◌≤◌, ◌<◌, leb, eqb, length}
use Rattle.facts.specs.Refuse.{unless}
use Rattle.neon.specs.declared.Instruction.{Instruction}
use Rattle.neon.specs.Op.{Op, is_operation, op_at, Arrangement, is_arrangement, arrangement_at, bits_of_lane}
use Rattle.neon.specs.Form.{has_form, least, most, has_second, by_element}

-- the nodes that one instruction may add, and the records that a block may have
abbrev pub reserve : ℕ
reserve = 768

abbrev pub most_records : ℕ
most_records = 85

-- a bound on the nodes that a form adds, all forms together; and on those of a record, with a read of a low half for each of n, m and d and
-- the widening of a result of 64 bits
abbrev pub most_nodes : ℕ
most_nodes = 760

abbrev pub record_nodes : ℕ
record_nodes = most_nodes + 3 + 1

-- 2, 3, 4: the operation, its form, its immediate; else what follows
abbrev pub form_number : (operation arrangement i rest : ℕ) → ℕ
form_number operation arrangement i rest =
    let o = op_at operation in
    let v = arrangement_at arrangement in
    unless (is_operation operation) 2
    (unless (is_arrangement arrangement && has_form o v) 3 (unless (leb (least o) i && leb i (most o (bits_of_lane v))) 4 rest))

-- the operation, the form and the immediate are of the table: none of these is given
pub record Formed (operation arrangement i : ℕ) : Type 0 where
  pub from_one : 1 ≤ operation
  pub to_last : operation ≤ 67
  pub arranged : arrangement ≤ 6
  pub row : has_form (op_at operation) (arrangement_at arrangement) ≡ true
  pub low : least (op_at operation) ≤ i
  pub high : i ≤ most (op_at operation) (bits_of_lane (arrangement_at arrangement))

-- The encodings by an element have five bits M, Rm for the register and two, H, L, for the index. An element of 32 bits is one of four,
-- and H:L is its index. One of 16 bits is one of eight: its index is H:L:M, so the register's top bit belongs to the index, and Rm alone
-- names v0 to v15. The element has half the bits of a lane of the result.
abbrev pub short_element : Op → Arrangement → Bool
short_element o v = by_element o && eqb (bits_of_lane v / 2) 16

-- the last register that m may name: of the low sixteen for an element of 16 bits, else of all; 0 if there is no second source
abbrev pub most_m : Op → Arrangement → ℕ
most_m o v = cond (has_second o) (cond (short_element o v) 15 31) 0

abbrev pub registers_ok : Instruction → Bool
registers_ok c = leb c.d 31 && leb c.n 31 && leb c.m (most_m (op_at c.operation) (arrangement_at c.arrangement))

unfoldable pub record_number : Instruction → ℕ
record_number c = form_number c.operation c.arrangement c.i (unless (registers_ok c) 7 0)

-- a record that is accepted
abbrev pub Legal : Instruction → Type 0
Legal c = record_number c ≡ 0

abbrev pub AllLegal : List Instruction → Type 0
AllLegal [] = Unit {0}
AllLegal (c ∷ cs) = Legal c × AllLegal cs

pub record Refusal : Type 0 where
  pub number : ℕ
  pub position : ℕ

abbrev pub refusal : ℕ → ℕ → Refusal
refusal k p = record { number = k; position = p }

-- r if it refuses, else what follows: `unless`, with a position
abbrev pub first_of : Refusal → Refusal → Refusal
first_of r rest = cond (eqb r.number 0) rest r

-- the number and the position of the first of k places, from place j on, that does not pass; 0 and 0 where all do
unfoldable pub first_refusal : (passes : ℕ → Bool) → (number k j : ℕ) → Refusal
first_refusal passes number zero j = refusal 0 0
first_refusal passes number (suc k) j = first_of (refusal (unless (passes j) number 0) j) (first_refusal passes number k (suc j))

-- of k places the first r pass, and place r, if there is one, does not
pub record PassedTo (passes : ℕ → Bool) (k r : ℕ) : Type 0 where
  pub most : r ≤ k
  pub before : (j : ℕ) → j < r → passes j ≡ true
  pub first : r < k → passes r ≡ false

-- the first bad record's number and position, counted from p; 0 and 0 if all are accepted
unfoldable pub records_refusal : ℕ → List Instruction → Refusal
records_refusal p [] = refusal 0 0
records_refusal p (c ∷ cs) = first_of (refusal (record_number c) p) (records_refusal (suc p) cs)

-- 8: more records than a block may have; else what follows
abbrev pub count_number : (count rest : ℕ) → ℕ
count_number count rest = unless (leb count most_records) 8 rest

-- 8, 6: more records than a block may have, or than so many places hold; else 0
unfoldable pub size_number : (places count : ℕ) → ℕ
size_number places count = count_number count (unless (leb (32 + reserve * count) places) 6 0)

-- a block: the number of its size, then its first bad record
abbrev pub refusal_by : (size : ℕ) → List Instruction → Refusal
refusal_by size cs = first_of (refusal size 0) (records_refusal 0 cs)

-- a block for a pool of so many places
unfoldable pub block_refusal : ℕ → List Instruction → Refusal
block_refusal places cs = refusal_by (size_number places (length cs)) cs
