-- A line of six numbers in columns (document 01, "Text and program"), and the record that they are.
use Rattle.std.specs.Prelude.{Bool, ◌&&◌, List, [], ◌∷◌, ℕ, eqb, length}
use Rattle.neon.specs.declared.Instruction.{Instruction}
use Rattle.line_columns.specs.Columns.{field_at, is_field}

-- 24 characters, six fields
unfoldable pub in_columns : List ℕ → Bool
in_columns line =
    eqb (length line) 24
    && (is_field line 0 && is_field line 4 && is_field line 8 && is_field line 12 && is_field line 16 && is_field line 20)

abbrev pub fields : List ℕ → List ℕ
fields line = field_at line 0 ∷ field_at line 4 ∷ field_at line 8 ∷ field_at line 12 ∷ field_at line 16 ∷ field_at line 20 ∷ []

abbrev pub record_of : List ℕ → Instruction
record_of line =
    record {
      operation = field_at line 0;
      arrangement = field_at line 4;
      i = field_at line 8;
      d = field_at line 12;
      n = field_at line 16;
      m = field_at line 20;
    }
