-- What the line program writes for a line (document 01, "Text and program"), as a function of the line's bytes.
use Rattle.std.specs.Prelude.{true, false, cond, ◌&&◌, List, [], ◌∷◌, ◌≡◌, ℕ, leb, eqb}
use Rattle.facts.specs.Refuse.{unless}
use Rattle.terms.specs.Expr.{Var}
use Rattle.terms.specs.Display.{display}
use Rattle.neon.specs.declared.Instruction.{Instruction}
use Rattle.neon.specs.Refusal.{block_refusal}
use Rattle.trees.specs.Trees.{tree_run}
use Rattle.block.specs.Block.{BlockAnswer, Answered}
use Rattle.line_fields.specs.Fields.{in_columns, record_of}
use Rattle.line_output.specs.Answer.{answer_room, room_number, written}

-- the text of register d after a block of one
unfoldable pub record_text : Instruction → List ℕ
record_text c = display (tree_run (c ∷ []) Var c.d)

-- in order: 10, then the number of the block of one for a pool of so many places, then 9
unfoldable pub answer_number : (places : ℕ) → List ℕ → ℕ
answer_number places line =
    let c = record_of line in
    let block = (block_refusal places (c ∷ [])).number in
    unless (in_columns line) 10 (unless (eqb block 0) block (room_number (record_text c)))

unfoldable pub answer : (places : ℕ) → List ℕ → List ℕ
answer places line = written (answer_number places line) (record_text (record_of line))

-- where the buffer may have too little room left, nothing
abbrev pub answer_in : (room places : ℕ) → List ℕ → List ℕ
answer_in room places line = cond (leb answer_room room) (answer places line) []

-- the pool after a line: as the block of one leaves it, where there is room and the line is in columns; else as it was
pub record PoolAfter (old line : List ℕ) (room : ℕ) (new : List ℕ) : Type 0 where
  pub lowered : (leb answer_room room && in_columns line) ≡ true → (a : BlockAnswer) × Answered old (record_of line ∷ []) new a
  pub kept : (leb answer_room room && in_columns line) ≡ false → new ≡ old
