-- What `neon_lower_block`, `neon_lower_block_saturation` and `neon_run_block` return and write.
use Rattle.std.specs.Prelude.{Bool, List, ◌≡◌, ℕ, get_or}
use Rattle.terms.specs.Value.{bit}
use Rattle.neon.specs.declared.Instruction.{Instruction}
use Rattle.block.specs.Block.{BlockAnswer, Answered}
use Rattle.block_results.specs.Words.{answer_words, flagged_words}
use Rattle.saturation_block.specs.Block.{SaturationAnswer}
use Rattle.saturation_block.specs.Block as flagged
use Rattle.run_block.specs.Run.{RunAnswered, FlagAnswered}

-- an answer that `block::lower_block` may give: its number is returned, the rest stands in 34 words
abbrev pub BlockGiven : (old : List ℕ) (cs : List Instruction) (new results : List ℕ) (number : ℕ) → Type 0
BlockGiven old cs new results number =
    (a : BlockAnswer) × Answered old cs new a × (number ≡ a.number) × (results ≡ answer_words a.map a.position)

-- an answer that `saturation_block::lower_block_saturation` may give: its number is returned, the rest stands in 35 words
abbrev pub SaturationGiven : (old : List ℕ) (cs : List Instruction) (new results : List ℕ) (number : ℕ) → Type 0
SaturationGiven old cs new results number =
    (a : SaturationAnswer) × flagged.Answered old cs new a × (number ≡ a.number) × (results ≡ flagged_words a.map a.position a.bit.0)

-- an answer that `run_block::run` may give: its number is returned, the registers stand in their place, the position in word 0, and in word 1
-- the bit that says whether a lane saturated
abbrev pub RunGiven : (start : List ℕ) (cs : List Instruction) (new results : List ℕ) (number : ℕ) → Type 0
RunGiven start cs new results number =
    RunAnswered start cs number (get_or results 0 0) new
    × ((saturated : Bool) × FlagAnswered start cs number saturated × (get_or results 1 0 ≡ bit saturated))
