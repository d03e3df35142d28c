-- What the release desk may conclude from an accepted refutation: the statements. No solver and no lent memory is trusted. The Arm runs are given
-- a start and the records, and nothing of a pool or of gates.
use Rattle.std.specs.Prelude.{not, List, ◌≡◌, ℕ, ◌-◌, ◌%◌, ◌^◌, ◌<◌, eqb}
use Rattle.neon.specs.declared.Instruction.{Instruction}
use Rattle.neon.specs.Run.{arm_run}
use Rattle.block_map.specs.Map.{node_of}
use Rattle.block.specs.Block.{BlockAnswer}
use Rattle.block.specs.Block as block
use Rattle.saturation_block.specs.Block.{SaturationAnswer}
use Rattle.saturation_block.specs.Block as flagged
use Rattle.canonical_write.specs.Canonise.{Canonised}
use Rattle.canonical_write.specs.Canonise as canonise
use Rattle.gates.specs.Graph.{truth}
use Rattle.gates_pool.specs.Bits.{Start}
use Rattle.gates_question.specs.Question.{bits_of, Asked, Answered}
use Rattle.refutation_check.specs.Answer.{Checked}
use Rattle.equal.specs.Equal as equal

-- a pool, its count and the node of register q after an accepted block: as `lower_block` left them, as `lower_block_saturation` did, or as
-- `canonise` made of these
pub data Lowered (cs : List Instruction) (q : ℕ) : List ℕ → ℕ → ℕ → Type 0 where
  by_block : (old new : List ℕ) (a : BlockAnswer) → block.Answered old cs new a → a.number ≡ 0 → Lowered cs q new a.map.count (node_of a.map q)
  by_saturation : (old new : List ℕ) (a : SaturationAnswer) → flagged.Answered old cs new a → a.number ≡ 0
      → Lowered cs q new a.map.count (node_of a.map q)
  canonical : (ws : List ℕ) (count node : ℕ) → Lowered cs q ws count node
      → (old new : List ℕ) (k : Canonised) → canonise.Answered ws count node old new k → k.number ≡ 0
      → Lowered cs q new k.count (k.count - 1)

-- P of two registers after two blocks, and of the pools and nodes that they were lowered to
abbrev pub OfTwo : ((cs : List Instruction) (q : ℕ) (cs' : List Instruction) (q' : ℕ) (ws : List ℕ) (n x : ℕ) (ws' : List ℕ) (m y : ℕ) → Type 0) → Type 0
OfTwo P =
    (cs : List Instruction) (q : ℕ) → q < 32 → (ws : List ℕ) (n x : ℕ) → Lowered cs q ws n x
    → (cs' : List Instruction) (q' : ℕ) → q' < 32 → (ws' : List ℕ) (m y : ℕ) → Lowered cs' q' ws' m y
    → P cs q cs' q' ws n x ws' m y

-- the literal of a question is true at a start exactly when bits hi to lo of the registers after both runs differ
abbrev pub LiteralIsOfRegisters : Type 0
LiteralIsOfRegisters =
    OfTwo (λ cs q cs' q' ws n x ws' m y.
    (hi lo : ℕ) (g g' table table' bits bits' : List ℕ) (r : Asked) → Answered ws n x ws' m y hi lo g g' table table' bits bits' r → r.number ≡ 0
    → (start : ℕ → ℕ) → Start start
    → truth start g' r.literal ≡ not (eqb (bits_of hi lo (arm_run cs start q)) (bits_of hi lo (arm_run cs' start q'))))

-- a refutation of the literal for bits hi to lo was accepted
pub record Accepted (ws : List ℕ) (n x : ℕ) (ws' : List ℕ) (m y hi lo : ℕ) : Type 0 where
  pub refutation : List ℕ
  pub graph : List ℕ
  pub graph' : List ℕ
  pub table : List ℕ
  pub table' : List ℕ
  pub bits : List ℕ
  pub bits' : List ℕ
  pub marks : ℕ
  pub starts : ℕ
  pub answer : Checked
  pub answered : equal.Answered ws n x ws' m y hi lo refutation graph graph' table table' bits bits' marks starts answer
  pub zero_is : answer.number ≡ 0

-- then these bits of the registers are equal at every start
abbrev pub EqualBits : Type 0
EqualBits =
    OfTwo (λ cs q cs' q' ws n x ws' m y.
    (hi lo : ℕ) → Accepted ws n x ws' m y hi lo → (start : ℕ → ℕ) → Start start → bits_of hi lo (arm_run cs start q) ≡ bits_of hi lo (arm_run cs' start q'))

-- for bits 127 to 0, the registers are
abbrev pub EqualRegisters : Type 0
EqualRegisters =
    OfTwo (λ cs q cs' q' ws n x ws' m y.
    Accepted ws n x ws' m y 127 0 → (start : ℕ → ℕ) → Start start → arm_run cs start q ≡ arm_run cs' start q')

-- for bits 63 to 0, their low halves are
abbrev pub EqualLowHalves : Type 0
EqualLowHalves =
    OfTwo (λ cs q cs' q' ws n x ws' m y.
    Accepted ws n x ws' m y 63 0 → (start : ℕ → ℕ) → Start start → arm_run cs start q % 2 ^ 64 ≡ arm_run cs' start q' % 2 ^ 64)
