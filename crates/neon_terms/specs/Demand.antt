-- Demand 3 of document 01, of what `neon_lower_block` returns and of the words that it leaves: word r of the results is the node of
-- register r's term. These are block's theorems, over words; and saturation_block's, with the bit that `neon_run_block` leaves. And demand 2's text.
use mathlib.Core.List.{List, Memᴰ, ◌++◌}
use Rattle.std.specs.Prelude.{◌↔◌, ◌≡◌, ℕ, ◌^◌, ◌<◌, leb, length, drop, get_or}
use Rattle.facts.specs.Refuse.{unless}
use Rattle.terms.specs.Value.{value, bit}
use Rattle.terms.specs.Display.{display}
use Rattle.neon.specs.declared.Instruction.{Instruction}
use Rattle.neon.specs.Op.{op_at, arrangement_at}
use Rattle.neon.specs.Run.{arm_run}
use Rattle.neon.specs.Refusal.{Legal}
use Rattle.trees.specs.Trees.{result_tree}
use Rattle.pool.specs.Node.{none}
use Rattle.pool.specs.Unfold.{unfold_at}
use Rattle.block_map.specs.Map.{no_map}
use Rattle.wide.specs.Registers.{registers_of}
use Rattle.instruction.specs.Lowering.{Lowering, Answers}
use Rattle.text.specs.Answer as text
use Rattle.block_results.specs.Words.{answer_words, flagged_words}
use Rattle.saturation.specs.Saturates.{saturates_run}
use Rattle.neon_terms.specs.Results.{BlockGiven, SaturationGiven, RunGiven}

-- the value at a start of register r's term, in the pool as the call left it
abbrev pub word_value : (ℕ → ℕ) → List ℕ → List ℕ → ℕ → ℕ
word_value start new results r = value start (unfold_at new (get_or results r 0))

abbrev pub RegistersHold : Type 0
RegistersHold =
    (old : List ℕ) (cs : List Instruction) (new results : List ℕ) (number : ℕ) → BlockGiven old cs new results number → number ≡ 0
    → (start : ℕ → ℕ) (r : ℕ) → r < 32
    → arm_run cs start r ≡ word_value start new results r

abbrev pub EqualWhenTermsAre : Type 0
EqualWhenTermsAre =
    (old : List ℕ) (cs : List Instruction) (new results : List ℕ) (number : ℕ) → BlockGiven old cs new results number → number ≡ 0
    → (old' : List ℕ) (cs' : List Instruction) (new' results' : List ℕ) (number' : ℕ) → BlockGiven old' cs' new' results' number' → number' ≡ 0
    → (start : ℕ → ℕ) (r r' : ℕ) → r < 32 → r' < 32
    → (arm_run cs start r ≡ arm_run cs' start r') ↔ (word_value start new results r ≡ word_value start new' results' r')

-- a block with one refused record: a number, 32 entries of 65,535 and count 0 with some position, and the pool as it was
abbrev pub RefusedWhole : Type 0
RefusedWhole =
    (old : List ℕ) (cs : List Instruction) (new results : List ℕ) (number : ℕ) → BlockGiven old cs new results number
    → (c : Instruction) → Memᴰ c cs → (Legal c → ⊥)
    → (number ≡ 0 → ⊥) × (position : ℕ) × (results ≡ answer_words no_map position) × (new ≡ old)

-- if the start's registers have 128 bits, so have those after an accepted block, and the values of their terms: equal numbers are equal in all bits
abbrev pub RegistersFit : Type 0
RegistersFit =
    (old : List ℕ) (cs : List Instruction) (new results : List ℕ) (number : ℕ) → BlockGiven old cs new results number → number ≡ 0
    → (start : ℕ → ℕ) → ((x : ℕ) → x < 32 → start x < 2 ^ 128)
    → (r : ℕ) → r < 32
    → (arm_run cs start r < 2 ^ 128) × (word_value start new results r < 2 ^ 128)

-- ---- with the saturation bit: `neon_lower_block_saturation`, whose word 34 is the node of the bit, and `neon_run_block`

-- at every start the bit of an accepted block is 1 exactly where the Arm run saturates, and each register holds its term's value
abbrev pub BitHolds : Type 0
BitHolds =
    (old : List ℕ) (cs : List Instruction) (new results : List ℕ) (number : ℕ) → SaturationGiven old cs new results number → number ≡ 0
    → (start : ℕ → ℕ)
    → word_value start new results 34 ≡ bit (saturates_run cs start)

abbrev pub FlaggedRegistersHold : Type 0
FlaggedRegistersHold =
    (old : List ℕ) (cs : List Instruction) (new results : List ℕ) (number : ℕ) → SaturationGiven old cs new results number → number ≡ 0
    → (start : ℕ → ℕ) (r : ℕ) → r < 32
    → arm_run cs start r ≡ word_value start new results r

abbrev pub FlaggedEqualWhenTermsAre : Type 0
FlaggedEqualWhenTermsAre =
    (old : List ℕ) (cs : List Instruction) (new results : List ℕ) (number : ℕ) → SaturationGiven old cs new results number → number ≡ 0
    → (old' : List ℕ) (cs' : List Instruction) (new' results' : List ℕ) (number' : ℕ) → SaturationGiven old' cs' new' results' number' → number' ≡ 0
    → (start : ℕ → ℕ) (r r' : ℕ) → r < 32 → r' < 32
    → (arm_run cs start r ≡ arm_run cs' start r') ↔ (word_value start new results r ≡ word_value start new' results' r')

-- a block with one refused record: a number, 32 entries of 65,535, count 0, some position and 65,535, and the pool as it was
abbrev pub FlaggedRefusedWhole : Type 0
FlaggedRefusedWhole =
    (old : List ℕ) (cs : List Instruction) (new results : List ℕ) (number : ℕ) → SaturationGiven old cs new results number
    → (c : Instruction) → Memᴰ c cs → (Legal c → ⊥)
    → (number ≡ 0 → ⊥) × (position : ℕ) × (results ≡ flagged_words no_map position none) × (new ≡ old)

-- where the block is accepted so, the runner's word is the bit's value
abbrev pub RunnerAgrees : Type 0
RunnerAgrees =
    (old : List ℕ) (cs : List Instruction) (new results : List ℕ) (number : ℕ) → SaturationGiven old cs new results number → number ≡ 0
    → (start after words : List ℕ) (k : ℕ) → RunGiven start cs after words k
    → (k ≡ 0) × (get_or words 1 0 ≡ word_value (registers_of start) new results 34)

-- ---- one instruction

-- demand 2's text: of an instruction that was lowered, the text of its node is `display` of its tree over the terms of its sources, in a buffer that
-- has room for it; a shorter one gets 9
abbrev pub InstructionText : Type 0
InstructionText =
    (old : List ℕ) (count : ℕ) (new : List ℕ) (l : Lowering) (operation arrangement i d n m : ℕ)
    → Answers old count new l operation arrangement i d n m
    → l.number ≡ 0
    → (buffer : List ℕ) (number len : ℕ) (out : List ℕ) → text.Answered new l.count l.node buffer number len out
    → (let shown = display (result_tree (op_at operation) (arrangement_at arrangement) i (unfold_at old d) (unfold_at old n) (unfold_at old m)) in
    (number ≡ unless (leb (length shown) (length buffer)) 9 0)
    × (number ≡ 0 → (len ≡ length shown) × (out ≡ shown ++ drop (length shown) buffer)))
