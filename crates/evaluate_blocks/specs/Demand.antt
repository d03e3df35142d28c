-- Demand 3 of document 01 for the evaluator: a register's term has the value that the register holds after the Arm run.
use Rattle.std.specs.Prelude.{List, ◌≡◌, ℕ, ◌≤◌, ◌<◌}
use Rattle.neon.specs.declared.Instruction.{Instruction}
use Rattle.neon.specs.Run.{arm_run}
use Rattle.block_map.specs.Map.{node_of}
use Rattle.wide.specs.Registers.{registers_of}
use Rattle.block.specs.Block.{BlockAnswer}
use Rattle.block.specs.Block as block
use Rattle.evaluate.specs.Visits.{visits_at}
use Rattle.evaluate.specs.Answer.{Evaluated, found}
use Rattle.evaluate.specs.Answer as evaluate

-- for every accepted block and every start: the node of register r, in the pool as the call left it, with an allowance that suffices,
-- gets the number 0 and the register of the Arm run
abbrev pub EvaluatedIsRun : Type 0
EvaluatedIsRun =
    (old : List ℕ) (cs : List Instruction) (new : List ℕ) (a : BlockAnswer) → block.Answered old cs new a → a.number ≡ 0
    → (start : List ℕ) (r allowance : ℕ) → r < 32 → visits_at new start (node_of a.map r) ≤ allowance
    → (e : Evaluated) → evaluate.Answered new start a.map.count (node_of a.map r) allowance e
    → (e.number ≡ 0) × (found e ≡ arm_run cs (registers_of start) r)
