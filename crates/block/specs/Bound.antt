-- The records and the nodes of a block: the bound of one record, as often as there are records (document 02, S-9).
use Rattle.std.specs.Prelude.{List, ◌≡◌, ℕ, ◌+◌, ◌*◌, ◌≤◌, length}
use Rattle.neon.specs.declared.Instruction.{Instruction}
use Rattle.block.specs.Block.{BlockAnswer, Answered}

-- an accepted block has 0 to 85 records and leaves 32 nodes and at most 768 for each record: no more than 65,312
abbrev pub BlockAdds : Type 0
BlockAdds =
    (old : List ℕ) (cs : List Instruction) (new : List ℕ) (a : BlockAnswer) → Answered old cs new a → a.number ≡ 0
    → (length cs ≤ 85) × (a.map.count ≤ 32 + 768 * length cs)
