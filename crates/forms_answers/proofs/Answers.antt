-- Records in columns are read back as they are, so the line program answers each by its text. Assumes nothing.
use mathlib.Core.Bool.{Bool, true, false}
use mathlib.Core.List.{List, [], ◌∷◌, ◌++◌, append_assoc, Memᴰ}
use mathlib.Core.Path.{◌≡◌, refl, ap, ◌∙◌}
use Prim.Native.Nat.{ℕ, ◌+◌, ◌/◌, ◌%◌, ◌≤◌, ◌<◌}
use native.Mathlib.Omega.{arith}
use lib.Dec.{eqb}
use lib.ListN.{get_or}
use borrow.Author.Tests.{le-leb, eq-eqb, ne_eqb}
use Rattle.neon.specs.declared.Instruction.{Instruction}
use Rattle.neon.specs.Refusal.{reserve, Legal, AllLegal, record_number, records_refusal, size_number, block_refusal}
use Rattle.block_record_check.specs.Record.{instruction}
use Rattle.line_columns.specs.Columns.{columns, character_of}
use Rattle.line_columns.proofs.Characters.{columns-are}
use Rattle.line_fields.specs.Fields.{in_columns, fields, record_of}
use Rattle.line_fields.proofs.Meaning.{line_of, written_read}
use Rattle.line.specs.Line.{answer_number, answer}
use Rattle.line.specs.Output.{output_from}
use Rattle.line_records.specs.Line.{line, lines}
use Rattle.line_records.proofs.Small.{Small, small}
use Rattle.forms_list.specs.Forms.{forms}
use Rattle.forms_list.proofs.Forms.{only-legal}
use Rattle.forms_answers.specs.Answers.{answer_to, answers, LegalAnswered, FormsAnswered}

-- ---- no character of a field is a newline

not-newline : (q : ℕ) → eqb (character_of q) 10 ≡ false
not-newline q = go (eqb q 0) refl
  where
    go : (t : Bool) → eqb q 0 ≡ t → eqb (character_of q) 10 ≡ false
    go true e = rw e
    go false e = rw e (ne_eqb (48 + q % 10) 10 (λ (z : 48 + q % 10 ≡ 10). omega arith))

digit_not : (x : ℕ) → eqb (48 + x % 10) 10 ≡ false
digit_not x = ne_eqb (48 + x % 10) 10 (λ (z : 48 + x % 10 ≡ 10). omega arith)

-- a field is taken into the line that is being read
field-taken : (p : ℕ) (l : List ℕ) (x : ℕ) (rest : List ℕ) → x < 10000 → output_from p l (columns x ++ rest) ≡ output_from p (l ++ columns x) rest
unfolding output_from
field-taken p l x rest h =
    rw (columns-are x h)
    (rw (not-newline (x / 1000), not-newline (x / 100), not-newline (x / 10), digit_not x) (simp append_assoc))

-- ---- a record's line

-- the record of six numbers
abbrev record_in : List ℕ → Instruction
record_in xs = instruction (get_or xs 0 0) (get_or xs 1 0) (get_or xs 2 0) (get_or xs 3 0) (get_or xs 4 0) (get_or xs 5 0)

module _ (p : ℕ) (c : Instruction) (legal : Legal c) where
  abbrev text : List ℕ
  text = line_of c.operation c.arrangement c.i c.d c.n c.m

  fits : Small c
  fits = small c legal

  back : (in_columns text ≡ true) × (fields text ≡ c.operation ∷ c.arrangement ∷ c.i ∷ c.d ∷ c.n ∷ c.m ∷ [])
  back =
      let s = fits in
      written_read c.operation c.arrangement c.i c.d c.n c.m
      s.operation-small s.arrangement-small s.i-small s.d_small s.n-small s.m-small

  record-back : record_of text ≡ c
  record-back = ap record_in back.1

  accepted-one : 32 + reserve ≤ p → (block_refusal p (c ∷ [])).number ≡ 0
  unfolding block_refusal size_number records_refusal
  accepted-one room = rw (le-leb (32 + reserve) p room, eq-eqb (record_number c) 0 legal)

  answer-is : 32 + reserve ≤ p → answer p text ≡ answer_to c
  unfolding answer answer_number
  answer-is room = rw (back.0, record-back, accepted-one room)

  line_taken : (rest : List ℕ) → output_from p [] (line c ++ rest) ≡ answer p text ++ output_from p [] rest
  unfolding output_from
  line_taken rest =
      let s = fits in
      let A = columns c.operation in
      let B = columns c.arrangement in
      let C = columns c.i in
      let D = columns c.d in
      let E = columns c.n in
      let F = columns c.m in
      let shape : line c ++ rest ≡ A ++ (B ++ (C ++ (D ++ (E ++ (F ++ (10 ∷ rest)))))) = simp append_assoc in
      let whole : ((((A ++ B) ++ C) ++ D) ++ E) ++ F ≡ text = simp append_assoc in
      ap (output_from p []) shape
      ∙ field-taken p [] c.operation _ s.operation-small
      ∙ field-taken p A c.arrangement _ s.arrangement-small
      ∙ field-taken p (A ++ B) c.i _ s.i-small
      ∙ field-taken p ((A ++ B) ++ C) c.d _ s.d_small
      ∙ field-taken p (((A ++ B) ++ C) ++ D) c.n _ s.n-small
      ∙ field-taken p ((((A ++ B) ++ C) ++ D) ++ E) c.m (10 ∷ rest) s.m-small
      ∙ ap (λ (l : List ℕ). answer p l ++ output_from p [] rest) whole

-- ---- all lines

pub legal-answered : LegalAnswered
unfolding lines answers output_from
legal-answered p room [] h = refl
legal-answered p room (c ∷ cs) h =
    line_taken p c h.0 (lines cs)
    ∙ ap (λ (l : List ℕ). l ++ output_from p [] (lines cs)) (answer-is p c h.0 room)
    ∙ ap (λ (l : List ℕ). answer_to c ++ l) (legal-answered p room cs h.1)

all-legal : (cs : List Instruction) → ((c : Instruction) → Memᴰ c cs → Legal c) → AllLegal cs
all-legal [] h = tt
all-legal (c ∷ cs) h = (h c (Memᴰ.head refl), all-legal cs (λ e m. h e (Memᴰ.tail m)))

pub forms-answered : FormsAnswered
forms-answered p room = legal-answered p room forms (all-legal forms (λ c m. (only-legal c m).0))
