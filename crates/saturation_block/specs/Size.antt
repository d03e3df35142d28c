-- The refusals of a block with its saturation bit (document 02, S-12): those of blocks, with its own size.
use Rattle.std.specs.Prelude.{List, ℕ, ◌+◌, ◌*◌, leb, length}
use Rattle.facts.specs.Refuse.{unless}
use Rattle.neon.specs.declared.Instruction.{Instruction}
use Rattle.neon.specs.Refusal.{Refusal, refusal_by}
use Rattle.saturation_step.specs.Step.{flag_reserve}

-- the records that such a block may have, and the places that so many need: the registers, the reserve of each, and the constant 0
abbrev pub most_flagged : ℕ
most_flagged = 31

abbrev pub flag_places : ℕ → ℕ
flag_places count = 32 + flag_reserve * count + 1

-- 8, 6: more records than such a block may have, or than so many places hold; else 0
unfoldable pub flag_size : (places count : ℕ) → ℕ
flag_size places count = unless (leb count most_flagged) 8 (unless (leb (flag_places count) places) 6 0)

-- a block for a pool of so many places
unfoldable pub flag_refusal : ℕ → List Instruction → Refusal
flag_refusal places cs = refusal_by (flag_size places (length cs)) cs
