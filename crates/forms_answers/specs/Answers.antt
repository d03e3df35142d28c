-- What the line program answers to a list of legal records in columns, and so to the list of all forms (document 02, S-14).
use Rattle.std.specs.Prelude.{List, [], ◌∷◌, ◌++◌, ◌≡◌, ℕ, ◌+◌, ◌≤◌}
use Rattle.neon.specs.declared.Instruction.{Instruction}
use Rattle.neon.specs.Refusal.{reserve, AllLegal}
use Rattle.line_output.specs.Answer.{room_number, written}
use Rattle.line.specs.Line.{record_text}
use Rattle.line.specs.Output.{output}
use Rattle.line_records.specs.Line.{lines}
use Rattle.forms_list.specs.Forms.{forms}

-- 0 and the text of register d; 9 exactly when that text passes 65,536 bytes
abbrev pub answer_to : Instruction → List ℕ
answer_to c = written (room_number (record_text c)) (record_text c)

unfoldable pub answers : List Instruction → List ℕ
answers [] = []
answers (c ∷ cs) = answer_to c ++ answers cs

-- legal records, in columns: these are the answers, if the pool has room for a block of one
abbrev pub LegalAnswered : Type 0
LegalAnswered = (places : ℕ) → 32 + reserve ≤ places → (cs : List Instruction) → AllLegal cs → output places (lines cs) ≡ answers cs

-- every form
abbrev pub FormsAnswered : Type 0
FormsAnswered = (places : ℕ) → 32 + reserve ≤ places → output places (lines forms) ≡ answers forms
