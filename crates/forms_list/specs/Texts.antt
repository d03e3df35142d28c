-- The lines of the list, in the parts in which they are written: of the immediates from least to most, of an operation at an
-- arrangement, of an operation, of all.
use Rattle.std.specs.Prelude.{List, ◌≡◌, ℕ, suc, ◌+◌, ◌-◌, length}
use Rattle.neon.specs.Op.{op_at}
use Rattle.neon.specs.Form.{least}
use Rattle.block_record_check.specs.Record.{instruction}
use Rattle.line_records.specs.Line.{line, lines}
use Rattle.text_series.specs.Series.{up_to}
use Rattle.forms_list.specs.Forms.{listed, immediates, forms}

unfoldable pub immediates_text : (operation arrangement least most m : ℕ) → List ℕ
immediates_text operation arrangement least most m = up_to (suc most - least) λ j. line (instruction operation arrangement (least + j) 0 1 m)

unfoldable pub arrangement_text : (operation arrangement : ℕ) → List ℕ
arrangement_text operation arrangement = up_to (immediates operation arrangement) λ j. line (listed operation arrangement (least (op_at operation) + j))

unfoldable pub operation_text : ℕ → List ℕ
operation_text operation = up_to 7 λ a. arrangement_text operation a

unfoldable pub forms_text : List ℕ
forms_text = up_to 67 λ o. operation_text (o + 1)

-- ---- theorems

-- the parts make up the list's lines
abbrev pub TextIsLines : Type 0
TextIsLines = forms_text ≡ lines forms

-- 2,966 lines of 25 bytes
abbrev pub TextLength : Type 0
TextLength = length forms_text ≡ 74150
