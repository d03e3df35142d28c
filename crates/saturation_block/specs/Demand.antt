-- The demands on a block with its saturation bit (document 02, S-12): the Arm run is fed a start and the records, and nothing of the pool.
use Rattle.std.specs.Prelude.{true, ◌↔◌, ◌≡◌, ℕ, ◌+◌, ◌*◌, ◌<◌, ◌≤◌, ◌^◌, length}
use mathlib.Core.List.{List, [], Memᴰ}
use Rattle.terms.specs.Expr.{Const}
use Rattle.terms.specs.Value.{value, bit}
use Rattle.neon.specs.declared.Instruction.{Instruction}
use Rattle.neon.specs.Run.{arm_run}
use Rattle.neon.specs.Refusal.{Legal}
use Rattle.pool.specs.Node.{none}
use Rattle.pool.specs.Unfold.{unfold_at}
use Rattle.block_map.specs.Map.{node_of, no_map}
use Rattle.saturation.specs.Saturates.{saturates_run}
use Rattle.block.specs.Block.{BlockAnswer}
use Rattle.block.specs.Block as block
use Rattle.saturation_block.specs.Block.{SaturationAnswer, Answered}

-- the values at a start of register r's term and of the block's bit, in the pool as the call left it
abbrev pub term_value : (ℕ → ℕ) → List ℕ → SaturationAnswer → ℕ → ℕ
term_value start new a r = value start (unfold_at new (node_of a.map r))

abbrev pub bit_value : (ℕ → ℕ) → List ℕ → SaturationAnswer → ℕ
bit_value start new a = value start (unfold_at new a.bit.0)

-- for every start and every accepted block: the bit is 1 exactly when some lane of some instruction of the Arm run saturates, and else 0
abbrev pub BitHolds : Type 0
BitHolds =
    (old : List ℕ) (cs : List Instruction) (new : List ℕ) (a : SaturationAnswer) → Answered old cs new a → a.number ≡ 0 → (start : ℕ → ℕ)
    → bit_value start new a ≡ bit (saturates_run cs start)

abbrev pub OneWhenSaturated : Type 0
OneWhenSaturated =
    (old : List ℕ) (cs : List Instruction) (new : List ℕ) (a : SaturationAnswer) → Answered old cs new a → a.number ≡ 0 → (start : ℕ → ℕ)
    → (bit_value start new a ≡ 1) ↔ (saturates_run cs start ≡ true)

-- the empty block's bit is the constant 0
abbrev pub EmptyIsZero : Type 0
EmptyIsZero = (old new : List ℕ) (a : SaturationAnswer) → Answered old [] new a → a.number ≡ 0 → unfold_at new a.bit.0 ≡ Const 0 1

-- demand 3 of document 01, as the lowering of blocks has it: each register after the Arm run holds the bits that are its term's value
abbrev pub RegistersHold : Type 0
RegistersHold =
    (old : List ℕ) (cs : List Instruction) (new : List ℕ) (a : SaturationAnswer) → Answered old cs new a → a.number ≡ 0 → (start : ℕ → ℕ) (r : ℕ) → r < 32
    → arm_run cs start r ≡ term_value start new a r

-- a register after one accepted block and a register after another are equal exactly when their terms have equal values
abbrev pub EqualWhenTermsAre : Type 0
EqualWhenTermsAre =
    (old : List ℕ) (cs : List Instruction) (new : List ℕ) (a : SaturationAnswer) → Answered old cs new a → a.number ≡ 0
    → (old' : List ℕ) (cs' : List Instruction) (new' : List ℕ) (a' : SaturationAnswer) → Answered old' cs' new' a' → a'.number ≡ 0
    → (start : ℕ → ℕ) (r r' : ℕ) → r < 32 → r' < 32
    → (arm_run cs start r ≡ arm_run cs' start r') ↔ (term_value start new a r ≡ term_value start new' a' r')

-- a block with one refused record is refused whole
abbrev pub RefusedWhole : Type 0
RefusedWhole =
    (old : List ℕ) (cs : List Instruction) (new : List ℕ) (a : SaturationAnswer) → Answered old cs new a → (c : Instruction) → Memᴰ c cs → (Legal c → ⊥)
    → (a.number ≡ 0 → ⊥) × (a.map ≡ no_map) × (a.bit.0 ≡ none) × (new ≡ old)

abbrev pub RegistersFit : Type 0
RegistersFit =
    (old : List ℕ) (cs : List Instruction) (new : List ℕ) (a : SaturationAnswer) → Answered old cs new a → a.number ≡ 0
    → (start : ℕ → ℕ) → ((x : ℕ) → x < 32 → start x < 2 ^ 128)
    → (r : ℕ) → r < 32
    → arm_run cs start r < 2 ^ 128

-- each register's term is the one that the lowering of blocks gives it: where both accept, they unfold to the same tree
abbrev pub SameTrees : Type 0
SameTrees =
    (old : List ℕ) (cs : List Instruction) (new : List ℕ) (a : SaturationAnswer) → Answered old cs new a → a.number ≡ 0
    → (old' new' : List ℕ) (a' : BlockAnswer) → block.Answered old' cs new' a' → a'.number ≡ 0
    → (r : ℕ) → r < 32
    → unfold_at new (node_of a.map r) ≡ unfold_at new' (node_of a'.map r)

-- an accepted block has 0 to 31 records and leaves 33 nodes and at most 2,048 for each record
abbrev pub BlockAdds : Type 0
BlockAdds =
    (old : List ℕ) (cs : List Instruction) (new : List ℕ) (a : SaturationAnswer) → Answered old cs new a → a.number ≡ 0
    → (length cs ≤ 31) × (a.map.count ≤ 33 + 2048 * length cs)
