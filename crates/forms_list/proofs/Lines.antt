-- The parts in which the lines are written make up the lines of the list. Assumes nothing.
use mathlib.Core.Path.{◌≡◌, refl, sym, ap, ◌∙◌}
use mathlib.Core.List.{List, [], ◌∷◌, ◌++◌, append_assoc, append-nil}
use Prim.Native.Nat.{ℕ, zero, suc, ◌+◌}
use Rattle.terms.specs.Display.{decimal, digits_to}
use Rattle.line_columns.specs.Columns.{columns}
use Rattle.neon.specs.declared.Instruction.{Instruction}
use Rattle.neon.specs.Op.{op_at, operations, arrangement_at, arrangements}
use Rattle.neon.specs.Form.{least}
use Rattle.line_records.specs.Line.{line, lines}
use Rattle.text_series.specs.Series.{up_to}
use Rattle.forms_list.specs.Forms.{listed, immediates, forms_at, forms_of, forms}
use Rattle.forms_list.specs.Texts.{arrangement_text, operation_text, forms_text, TextIsLines, TextLength}

lines-append : (a b : List Instruction) → lines (a ++ b) ≡ lines a ++ lines b
unfolding lines
lines-append [] b = refl
lines-append (c ∷ a) b = ap (λ (s : List ℕ). line c ++ s) (lines-append a b) ∙ sym (append_assoc (line c) (lines a) (lines b))

lines-up_to : (k : ℕ) (f : ℕ → List Instruction) (g : ℕ → List ℕ) → ((j : ℕ) → lines (f j) ≡ g j) → lines (up_to k f) ≡ up_to k g
unfolding up_to lines
lines-up_to zero f g h = refl
lines-up_to (suc k) f g h =
    lines-append (up_to k f) (f k)
    ∙ ap (λ (s : List ℕ). s ++ lines (f k)) (lines-up_to k f g h)
    ∙ ap (λ (s : List ℕ). up_to k g ++ s) (h k)

pub text-is : TextIsLines
unfolding forms forms_of forms_at forms_text operation_text arrangement_text lines
text-is =
    sym
    (lines-up_to 67 _ _ λ o.
    lines-up_to 7 _ _ λ a. lines-up_to (immediates (o + 1) a) _ _ λ j. append-nil (line (listed (o + 1) a (least (op_at (o + 1)) + j))))

pub text-length : TextLength
unfolding forms_text operation_text arrangement_text up_to op_at operations arrangement_at arrangements columns decimal digits_to
text-length = refl
