-- What the release desk may conclude from scripts of two joined pools: the statements. The Arm runs are fed a start and the records, the reader of
-- scripts a model and bytes; neither knows anything of a pool.
use Rattle.std.specs.Prelude.{List, ◌↔◌, ◌≡◌, ℕ, ◌+◌, ◌-◌, ◌*◌, ◌^◌, ◌<◌, take}
use Rattle.terms.specs.declared.CmpOp.TheVariants.{Eq}
use Rattle.neon.specs.declared.Instruction.{Instruction}
use Rattle.neon.specs.Run.{arm_run}
use Rattle.pool.specs.Node.{Cell, compare, cell_at}
use Rattle.block_map.specs.Map.{node_of}
use Rattle.join.specs.Join.{moved}
use Rattle.join_blocks.specs.Demand.{OfTwoBlocks}
use Rattle.canonical_write.specs.Canonise.{Canonised}
use Rattle.canonical_write.specs.Canonise as canonise
use Rattle.script_meaning.specs.Demand.{ModelOf, Holds}
use Rattle.script_length.specs.Answer.{script_number}
use Rattle.script_write.specs.Answer as scripts
use Rattle.script_lane_write.specs.Answer.{LaneAnswered}

-- a script was written, and no model at all meets its assertions: what a solver says by "unsat"
pub record Unmet (ws : List ℕ) (count x y hi lo : ℕ) : Type 0 where
  pub buffer : List ℕ
  pub len : ℕ
  pub out : List ℕ
  pub written : LaneAnswered ws count x y hi lo buffer 0 len out
  pub unmet : (model : List ℕ → ℕ) → Holds model (take len out) → ⊥

-- so it is for each of k lanes of w bits
abbrev pub NoLaneMet : List ℕ → (count x y w k : ℕ) → Type 0
NoLaneMet ws count x y w k = (i : ℕ) → i < k → Unmet ws count x y (w * i + (w - 1)) (w * i)

-- P of every two accepted blocks whose pools are joined in `out`, and of register q after the first and q' after the second: x and y are their nodes
-- there. The registers that the Eq of the join was made of may be any.
abbrev pub OfTwoRegisters : ((cs cs' : List Instruction) (q q' : ℕ) (out : List ℕ) (count x y : ℕ) → Type 0) → Type 0
OfTwoRegisters P =
    OfTwoBlocks (λ cs a r cs' a' r' buffer out j.
    j.number ≡ 0 → (q q' : ℕ) → q < 32 → q' < 32 → P cs cs' q q' out j.count (node_of a.map q) (moved a.map.count (node_of a'.map q')))

-- ---- one script for all 128 bits

-- the registers may be chosen in the joined pool: their script is refused only if room is lacking
abbrev pub JoinedRegistersChosen : Type 0
JoinedRegistersChosen = OfTwoRegisters (λ cs cs' q q' out count x y. (rest : ℕ) → script_number out count x y rest ≡ rest)

-- for every start: they differ after the two Arm runs exactly when the assertion of their script holds in the start's model
abbrev pub DifferWhenJoinedScriptHolds : Type 0
DifferWhenJoinedScriptHolds =
    OfTwoRegisters (λ cs cs' q q' out count x y.
    (buffer : List ℕ) (len : ℕ) (text : List ℕ) → scripts.Answered out count x y buffer 0 len text
    → (start : ℕ → ℕ) (model : List ℕ → ℕ) → ModelOf start model
    → (arm_run cs start q ≡ arm_run cs' start q' → ⊥) ↔ Holds model (take len text))

-- ---- scripts by lanes

-- a start of 128-bit registers
abbrev pub Start : (ℕ → ℕ) → Type 0
Start start = (r : ℕ) → r < 32 → start r < 2 ^ 128

-- if no lane's script can be met, the registers after both Arm runs are equal at every start
abbrev pub EqualWhenNoLaneIsMet : Type 0
EqualWhenNoLaneIsMet =
    OfTwoRegisters (λ cs cs' q q' out count x y.
    (w k : ℕ) → w * k ≡ 128 → NoLaneMet out count x y w k → (start : ℕ → ℕ) → Start start → arm_run cs start q ≡ arm_run cs' start q')

-- if a model of a start meets the script of some bits, they differ at that start
abbrev pub DifferWhereALaneIsMet : Type 0
DifferWhereALaneIsMet =
    OfTwoRegisters (λ cs cs' q q' out count x y.
    (hi lo : ℕ) (buffer : List ℕ) (len : ℕ) (text : List ℕ) → LaneAnswered out count x y hi lo buffer 0 len text
    → (start : ℕ → ℕ) (model : List ℕ → ℕ) → ModelOf start model → Holds model (take len text)
    → arm_run cs start q ≡ arm_run cs' start q' → ⊥)

-- the Eq of nodes x and y
abbrev pub eq_of : (x y : ℕ) → Cell
eq_of x y = record { kind = compare Eq; width = 0; a = x; b = y; c = 0; x = 0; y = 0 }

-- so it is if the scripts are of the canonical pool of the Eq, which has both routines' terms and nothing else: it ends with the Eq of x and y
abbrev pub EqualWhenNoCanonicalLaneIsMet : Type 0
EqualWhenNoCanonicalLaneIsMet =
    OfTwoBlocks (λ cs a r cs' a' r' buffer out j.
    j.number ≡ 0
    → (old ws : List ℕ) (c : Canonised) → canonise.Answered out j.count j.node old ws c → c.number ≡ 0
    → (x y : ℕ) → cell_at ws (c.count - 1) ≡ eq_of x y
    → (w k : ℕ) → w * k ≡ 128 → NoLaneMet ws c.count x y w k
    → (start : ℕ → ℕ) → Start start → arm_run cs start r ≡ arm_run cs' start r')
