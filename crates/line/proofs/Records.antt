-- The answer to a line, by the way that it took. Assumes nothing.
use mathlib.Core.Bool.{Bool, true, false, cond, ◌&&◌, false≢true}
use mathlib.Core.List.{List, [], ◌∷◌, ◌++◌}
use mathlib.Core.Logic.{⊎_elim}
use mathlib.Core.Path.{◌≡◌, refl, sym, ap, ◌∙◌, subst}
use Prim.Native.Nat.{ℕ, zero, suc, ◌+◌, ◌-◌, ◌*◌, ◌≤◌, ◌<◌}
use native.Mathlib.Omega.{arith}
use lib.Dec.{leb, eqb}
use lib.ListN.{length}
use borrow.Author.Tests.{le-leb, lt-leb, eqb-true, ne_eqb}
use Rattle.terms.specs.Display.{display}
use Rattle.facts.specs.Refuse.{unless}
use Rattle.facts.proofs.Tests.{and_both}
use Rattle.neon.specs.declared.Instruction.{Instruction}
use Rattle.neon.specs.Op.{is_operation, op_at, is_arrangement, arrangement_at, bits_of_lane}
use Rattle.neon.specs.Form.{has_form, least, most}
use Rattle.neon.specs.Refusal.{Refusal, refusal, reserve, most_records, registers_ok, record_number, records_refusal, size_number, block_refusal}
use Rattle.neon.proofs.Legal.{accepted}
use Rattle.pool.specs.Node.{bad, var, code_of, Cell, word_at, kind_number, places}
use Rattle.pool.proofs.Facts.{kind-code}
use Rattle.text_digits.specs.Writing.{Wrote}
use Rattle.text_parts.specs.Text.{text}
use Rattle.text_length.specs.Known.{Registers}
use Rattle.text_digits.proofs.Laws.{wrote_none, wrote_as}
use Rattle.block_check.specs.Records.{records_from, records_of}
use Rattle.block_check.proofs.Refusals.{block-legal}
use Rattle.block_map.specs.Map.{node_of}
use Rattle.block.specs.Block.{BlockAnswer, VarAt, Answered}
use Rattle.line_columns.specs.Columns.{columns}
use Rattle.line_fields.specs.Fields.{in_columns, fields, record_of}
use Rattle.line_output.specs.Answer.{answer_room, room_number, written}
use Rattle.line.specs.Line.{record_text, answer_number, answer, answer_in, PoolAfter}

-- ---- numbers

unless-le : (b : Bool) (k rest m : ℕ) → k ≤ m → rest ≤ m → unless b k rest ≤ m
unless-le true k rest m p q = q
unless-le false k rest m p q = p

cond-le : (b : Bool) (x y : Refusal) (m : ℕ) → x.number ≤ m → y.number ≤ m → (cond b x y).number ≤ m
cond-le true x y m p q = p
cond-le false x y m p q = q

all-low : (a b c d : Bool) → unless a 2 (unless b 3 (unless c 4 (unless d 7 0))) ≤ 8
all-low a b c d =
    unless-le a 2 _ 8 (omega arith) (unless-le b 3 _ 8 (omega arith) (unless-le c 4 _ 8 (omega arith) (unless-le d 7 0 8 (omega arith) (omega arith))))

record-low : (c : Instruction) → record_number c ≤ 8
unfolding record_number
record-low c =
    let o = op_at c.operation in
    let v = arrangement_at c.arrangement in
    all-low (is_operation c.operation) (is_arrangement c.arrangement && has_form o v) (leb (least o) c.i && leb c.i (most o (bits_of_lane v)))
    (registers_ok c)

size_low : (p n : ℕ) → size_number p n ≤ 8
unfolding size_number
size_low p n = unless-le (leb n most_records) 8 _ 8 (omega arith) (unless-le (leb (32 + reserve * n) p) 6 0 8 (omega arith) (omega arith))

pub block-low : (p : ℕ) (c : Instruction) → (block_refusal p (c ∷ [])).number ≤ 8
unfolding block_refusal records_refusal
block-low p c =
    cond-le (eqb (size_number p 1) 0) (records_refusal 0 (c ∷ [])) (refusal (size_number p 1) 0) 8
    (cond-le (eqb (record_number c) 0) (refusal 0 0) (refusal (record_number c) 0) 8 (omega arith) (record-low c)) (size_low p 1)

-- ---- a line's record

one-record : (line : List ℕ) → records_of (fields line) ≡ record_of line ∷ []
unfolding records_from
one-record line = refl

pub answered-one : {old flat new : List ℕ} {a : BlockAnswer} (line : List ℕ) → flat ≡ fields line → Answered old (records_of flat) new a
    → Answered old (record_of line ∷ []) new a
answered-one {old} {flat} {new} {a} line e h =
    rw one-record at (subst (λ (z : List ℕ). Answered old (records_of z) new a) e h)

module _ (p : ℕ) (line : List ℕ) where
  abbrev c : Instruction
  c = record_of line

  answer-other : in_columns line ≡ false → answer p line ≡ columns 10 ++ (10 ∷ [])
  unfolding answer answer_number
  answer-other e = rw e

  answer-refused : in_columns line ≡ true → (k : ℕ) → k ≡ (block_refusal p (c ∷ [])).number → 0 < k → answer p line ≡ columns k ++ (10 ∷ [])
  unfolding answer answer_number
  answer-refused e zero f h = absurd (omega arith)
  answer-refused e (suc k) f h = rw (e, ← f, ne_eqb (suc k) 0 (λ z. absurd (omega (arith, z))))

  answer-done : in_columns line ≡ true → (block_refusal p (c ∷ [])).number ≡ 0 → (s : List ℕ) → s ≡ record_text c → answer p line ≡ written (room_number s) s
  unfolding answer answer_number
  answer-done e f s g = rw (e, f, ← g)

  pub long : in_columns line ≡ true → length line ≡ 24
  unfolding in_columns
  long e = eqb-true (length line) 24 (and_both (eqb (length line) 24) _ e).0

-- the first 32 nodes of an accepted block's pool are registers
var-here : (ws : List ℕ) (r : ℕ) → VarAt ws r → (kind_number ws r ≡ 1) × (word_at ws r 2 ≡ r)
var-here ws r v =
    let κ = ap (λ (k : Cell). k.kind) v in
    (⊎_elim (λ e. absurd (no (sym κ ∙ e))) (λ e. sym e ∙ ap code_of κ) (kind-code (kind_number ws r)), ap (λ (k : Cell). k.x) v)
  where
    no : var ≡ bad → ⊥
    no e = let z : code_of var ≡ code_of bad = ap code_of e in omega arith

-- register d of an accepted record: its number, and its text
module _ (line : List ℕ) {old new : List ℕ} {a : BlockAnswer} (b : Answered old (record_of line ∷ []) new a) (z : a.number ≡ 0) where
  pub low-d : (record_of line).d < 32
  low-d =
      let k = block-legal (places old) (record_of line ∷ []) (sym b.number ∙ z) in
      omega (arith, (accepted (record_of line) k.2.0).at-d)

  node-text : text new (node_of a.map (record_of line).d) ≡ record_text (record_of line)
  unfolding text record_text
  node-text = ap display ((b.accepted z).terms (record_of line).d low-d).tree

  pub registers : Registers new
  registers = record { at = λ r h. var-here new r ((b.accepted z).vars r h) }

  pub node-under : node_of a.map (record_of line).d < a.map.count
  node-under = ((b.accepted z).terms (record_of line).d low-d).under

-- ---- what is written

module _ (old line out : List ℕ) (at : ℕ) where
  -- the pool is left as it was, or the block of one is lowered
  abbrev looks : Bool
  looks = leb answer_room (length out - at) && in_columns line

  left : looks ≡ false → PoolAfter old line (length out - at) old
  left q = record { lowered = λ e. absurd (false≢true (sym q ∙ e)); kept = λ e. refl }

  pub left-little : length out - at < answer_room → PoolAfter old line (length out - at) old
  left-little h = left (rw (lt-leb answer_room (length out - at) h))

  pub left_other : answer_room ≤ length out - at → in_columns line ≡ false → PoolAfter old line (length out - at) old
  left_other h e = left (rw (le-leb answer_room (length out - at) h) e)

  pub lowered-one : {new : List ℕ} {a : BlockAnswer} → answer_room ≤ length out - at → in_columns line ≡ true → Answered old (record_of line ∷ []) new a
      → PoolAfter old line (length out - at) new
  lowered-one {a = a} h e b =
      let q : looks ≡ true = rw (le-leb answer_room (length out - at) h) e in
      record { lowered = λ t. (a, b); kept = λ t. absurd (false≢true (sym t ∙ q)) }

  -- no room
  pub no_room : length out < at → Wrote out at (answer_in (length out - at) (places old) line) at out
  no_room h = wrote_as (rw (lt-leb answer_room (length out - at) (omega arith))) (wrote_none out at)

  pub little-room : length out - at < answer_room → Wrote out at (answer_in (length out - at) (places old) line) at out
  little-room h = wrote_as (rw (lt-leb answer_room (length out - at) h)) (wrote_none out at)

  room : {after : List ℕ} {r : ℕ} (s : List ℕ) → answer_room ≤ length out - at → answer (places old) line ≡ s → Wrote out at s r after
      → Wrote out at (answer_in (length out - at) (places old) line) r after
  room s h e w = wrote_as (rw (le-leb answer_room (length out - at) h) e) w

  pub other : {after : List ℕ} {r : ℕ} → answer_room ≤ length out - at → in_columns line ≡ false → Wrote out at (columns 10 ++ (10 ∷ [])) r after
      → Wrote out at (answer_in (length out - at) (places old) line) r after
  other h e w = room (columns 10 ++ (10 ∷ [])) h (answer-other (places old) line e) w

  pub refused : {new after : List ℕ} {a : BlockAnswer} {r : ℕ} → answer_room ≤ length out - at → in_columns line ≡ true
      → Answered old (record_of line ∷ []) new a → 0 < a.number → Wrote out at (columns a.number ++ (10 ∷ [])) r after
      → Wrote out at (answer_in (length out - at) (places old) line) r after
  refused {a = a} h e b k w = room (columns a.number ++ (10 ∷ [])) h (answer-refused (places old) line e a.number b.number k) w

  pub done : {new after : List ℕ} {a : BlockAnswer} {r : ℕ} (n : ℕ) → answer_room ≤ length out - at → in_columns line ≡ true
      → Answered old (record_of line ∷ []) new a → a.number ≡ 0 → n ≡ node_of a.map (record_of line).d
      → Wrote out at (written (room_number (text new n)) (text new n)) r after → Wrote out at (answer_in (length out - at) (places old) line) r after
  done {new = new} n h e b z f w =
      room (written (room_number (text new n)) (text new n)) h
      (answer-done (places old) line e (sym b.number ∙ z) (text new n) (ap (text new) f ∙ node-text line b z)) w
