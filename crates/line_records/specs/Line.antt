-- A record as a line of document 01's columns.
use Rattle.std.specs.Prelude.{List, [], ◌∷◌, ◌++◌, ℕ}
use Rattle.neon.specs.declared.Instruction.{Instruction}
use Rattle.line_columns.specs.Columns.{columns}

-- six fields and a newline
abbrev pub line : Instruction → List ℕ
line c =
    columns c.operation ++ (columns c.arrangement ++ (columns c.i ++ (columns c.d ++ (columns c.n ++ (columns c.m ++ (10 ∷ []))))))

unfoldable pub lines : List Instruction → List ℕ
lines [] = []
lines (c ∷ cs) = line c ++ lines cs
