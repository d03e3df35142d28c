-- Demand 3 of document 01 with the runner: on every accepted block the runner, the Arm run, the registers' terms and the evaluator agree;
-- and the runner's saturation bit is the value of the block's (document 02, S-12).
use Rattle.std.specs.Prelude.{Bool, List, ◌≡◌, ℕ, ◌+◌, ◌*◌, ◌≤◌, ◌<◌, length}
use Rattle.terms.specs.Value.{value, bit}
use Rattle.neon.specs.declared.Instruction.{Instruction}
use Rattle.neon.specs.Refusal.{reserve, most_records, block_refusal}
use Rattle.neon.specs.Run.{arm_run}
use Rattle.block_map.specs.Map.{node_of}
use Rattle.wide.specs.Registers.{registers_of}
use Rattle.block.specs.Block.{BlockAnswer}
use Rattle.block.specs.Demand.{term_value}
use Rattle.block.specs.Block as block
use Rattle.evaluate.specs.Visits.{visits_at}
use Rattle.evaluate.specs.Answer.{Evaluated, found}
use Rattle.evaluate.specs.Answer as evaluate
use Rattle.saturation.specs.Bits.{block_bit}
use Rattle.run_block.specs.Run.{run_refusal, RunAnswered, FlagAnswered}
use Rattle.saturation_block.specs.Block.{SaturationAnswer}
use Rattle.saturation_block.specs.Block as flagged
use Rattle.saturation_block.specs.Demand as flagged-demand

-- a pool with room refuses the same blocks as the runner, with the same number and position
abbrev pub SameRefusal : Type 0
SameRefusal = (places : ℕ) (cs : List Instruction) → (length cs ≤ most_records → 32 + reserve * length cs ≤ places) → block_refusal places cs ≡ run_refusal cs

-- the runner is the Arm run
abbrev pub RunnerIsArm : Type 0
RunnerIsArm =
    (start : List ℕ) (cs : List Instruction) (number position : ℕ) (new : List ℕ) → RunAnswered start cs number position new → number ≡ 0
    → (r : ℕ) → r < 32
    → registers_of new r ≡ arm_run cs (registers_of start) r

-- a block that lowering accepts is run, and each register then holds the value of its term, in the pool as lowering left it
abbrev pub RunnerIsTerms : Type 0
RunnerIsTerms =
    (old : List ℕ) (cs : List Instruction) (pool : List ℕ) (a : BlockAnswer) → block.Answered old cs pool a → a.number ≡ 0
    → (start : List ℕ) (number position : ℕ) (new : List ℕ) → RunAnswered start cs number position new
    → (number ≡ 0) × ((r : ℕ) → r < 32 → registers_of new r ≡ term_value (registers_of start) pool a r)

-- and what the evaluator finds, with an allowance that suffices
abbrev pub RunnerIsEvaluator : Type 0
RunnerIsEvaluator =
    (old : List ℕ) (cs : List Instruction) (pool : List ℕ) (a : BlockAnswer) → block.Answered old cs pool a → a.number ≡ 0
    → (start : List ℕ) (number position : ℕ) (new : List ℕ) → RunAnswered start cs number position new
    → (r allowance : ℕ) → r < 32 → visits_at pool start (node_of a.map r) ≤ allowance
    → (e : Evaluated) → evaluate.Answered pool start a.map.count (node_of a.map r) allowance e
    → (e.number ≡ 0) × (registers_of new r ≡ found e)

-- a block that lowering with its saturation bit accepts is run; each register then holds the value of its term, and the runner's bit is the
-- value of the block's
abbrev pub RunnerIsFlagged : Type 0
RunnerIsFlagged =
    (old : List ℕ) (cs : List Instruction) (pool : List ℕ) (a : SaturationAnswer) → flagged.Answered old cs pool a → a.number ≡ 0
    → (start : List ℕ) (number position : ℕ) (new : List ℕ) (saturated : Bool) → RunAnswered start cs number position new → FlagAnswered start cs number saturated
    → (number ≡ 0)
    × ((r : ℕ) → r < 32 → registers_of new r ≡ flagged-demand.term_value (registers_of start) pool a r)
    × (bit saturated ≡ flagged-demand.bit_value (registers_of start) pool a)

-- at every length that the runner accepts, its bit is the value of the block's saturation term
abbrev pub RunnerIsBit : Type 0
RunnerIsBit =
    (start : List ℕ) (cs : List Instruction) (number position : ℕ) (new : List ℕ) (saturated : Bool) → RunAnswered start cs number position new
    → FlagAnswered start cs number saturated
    → number ≡ 0
    → bit saturated ≡ value (registers_of start) (block_bit cs)
