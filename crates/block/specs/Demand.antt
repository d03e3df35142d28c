-- Demand 3 of document 01, of what the lowering of a block answers: the Arm run is fed a start and the records, and nothing of the pool.
use Rattle.std.specs.Prelude.{true, ◌↔◌, ◌≡◌, ℕ, ◌<◌, ◌^◌}
use mathlib.Core.List.{List, Memᴰ}
use Rattle.terms.specs.Value.{value}
use Rattle.neon.specs.declared.Instruction.{Instruction}
use Rattle.neon.specs.Run.{arm_run}
use Rattle.neon.specs.Refusal.{Legal}
use Rattle.trees.specs.Joined.{all_joined}
use Rattle.pool.specs.Unfold.{unfold_at}
use Rattle.block_map.specs.Map.{node_of, no_map}
use Rattle.block.specs.Block.{BlockAnswer, Answered}

-- the value at a start of register r's term, in the pool as the call left it
abbrev pub term_value : (ℕ → ℕ) → List ℕ → BlockAnswer → ℕ → ℕ
term_value start new a r = value start (unfold_at new (node_of a.map r))

-- for every start and every accepted block: each register after the Arm run holds the bits that are its term's value at that start
abbrev pub RegistersHold : Type 0
RegistersHold =
    (old : List ℕ) (cs : List Instruction) (new : List ℕ) (a : BlockAnswer) → Answered old cs new a → a.number ≡ 0 → (start : ℕ → ℕ) (r : ℕ) → r < 32
    → arm_run cs start r ≡ term_value start new a r

-- for every start and every two accepted blocks, each in its own pool: a register after the first and a register after the second
-- are equal exactly when their terms have equal values at that start
abbrev pub EqualWhenTermsAre : Type 0
EqualWhenTermsAre =
    (old : List ℕ) (cs : List Instruction) (new : List ℕ) (a : BlockAnswer) → Answered old cs new a → a.number ≡ 0
    → (old' : List ℕ) (cs' : List Instruction) (new' : List ℕ) (a' : BlockAnswer) → Answered old' cs' new' a' → a'.number ≡ 0
    → (start : ℕ → ℕ) (r r' : ℕ) → r < 32 → r' < 32
    → (arm_run cs start r ≡ arm_run cs' start r') ↔ (term_value start new a r ≡ term_value start new' a' r')

-- a block with one refused record is refused whole: it has a number, no register has a node, and the pool is as it was
abbrev pub RefusedWhole : Type 0
RefusedWhole =
    (old : List ℕ) (cs : List Instruction) (new : List ℕ) (a : BlockAnswer) → Answered old cs new a → (c : Instruction) → Memᴰ c cs → (Legal c → ⊥)
    → (a.number ≡ 0 → ⊥) × (a.map ≡ no_map) × (new ≡ old)

-- where the start's registers have 128 bits, so have those after an accepted block: equal numbers are equal in all 128 bits
abbrev pub RegistersFit : Type 0
RegistersFit =
    (old : List ℕ) (cs : List Instruction) (new : List ℕ) (a : BlockAnswer) → Answered old cs new a → a.number ≡ 0
    → (start : ℕ → ℕ) → ((x : ℕ) → x < 32 → start x < 2 ^ 128)
    → (r : ℕ) → r < 32
    → arm_run cs start r < 2 ^ 128

-- S-8 of document 02: no cut of a cut is left in the term of any register after an accepted block
abbrev pub RegistersJoined : Type 0
RegistersJoined =
    (old : List ℕ) (cs : List Instruction) (new : List ℕ) (a : BlockAnswer) → Answered old cs new a → a.number ≡ 0 → (r : ℕ) → r < 32
    → all_joined (unfold_at new (node_of a.map r)) ≡ true
