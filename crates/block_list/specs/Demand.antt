-- Demand 3 of document 01, of what lower_instructions answers and of the pool and the map that it leaves. These are block's
-- theorems at that answer, so a block of records and a block of flat numbers are compared by them too.
use mathlib.Core.List.{List, Memᴰ}
use Rattle.std.specs.Prelude.{◌↔◌, ◌≡◌, ℕ, ◌^◌, ◌<◌}
use Rattle.std.specs.declared.result.Result.{Result}
use Rattle.facts.specs.declared.RefusedAt.{RefusedAt}
use Rattle.facts.specs.Answer.{number_at}
use Rattle.neon.specs.declared.Instruction.{Instruction}
use Rattle.neon.specs.Run.{arm_run}
use Rattle.neon.specs.Refusal.{Legal}
use Rattle.block_map.specs.declared.RegisterMap.{RegisterMap}
use Rattle.block_map.specs.Map.{no_map}
use Rattle.block.specs.Block.{Answered}
use Rattle.block.specs.Demand.{term_value}
use Rattle.block_list.specs.Lent.{answer}

-- for every start and every accepted list of records: each register after the Arm run holds the bits that are its term's value
-- at that start
abbrev pub RegistersHold : Type 0
RegistersHold =
    (old : List ℕ) (cs : List Instruction) (new : List ℕ) (a : Result (Unit {0}) RefusedAt) (m : RegisterMap) → Answered old cs new (answer a m) → number_at a ≡ 0
    → (start : ℕ → ℕ) (r : ℕ) → r < 32
    → arm_run cs start r ≡ term_value start new (answer a m) r

-- for every start and every two accepted lists, each in its own pool and map: a register after the first and a register after the
-- second are equal exactly when their terms have equal values at that start
abbrev pub EqualWhenTermsAre : Type 0
EqualWhenTermsAre =
    (old : List ℕ) (cs : List Instruction) (new : List ℕ) (a : Result (Unit {0}) RefusedAt) (m : RegisterMap) → Answered old cs new (answer a m) → number_at a ≡ 0
    → (old' : List ℕ) (cs' : List Instruction) (new' : List ℕ) (a' : Result (Unit {0}) RefusedAt) (m' : RegisterMap) → Answered old' cs' new' (answer a' m') → number_at a' ≡ 0
    → (start : ℕ → ℕ) (r r' : ℕ) → r < 32 → r' < 32
    → (arm_run cs start r ≡ arm_run cs' start r') ↔ (term_value start new (answer a m) r ≡ term_value start new' (answer a' m') r')

-- a list with one refused record is refused whole: it has a number, no register has a node, and the pool is as it was
abbrev pub RefusedWhole : Type 0
RefusedWhole =
    (old : List ℕ) (cs : List Instruction) (new : List ℕ) (a : Result (Unit {0}) RefusedAt) (m : RegisterMap) → Answered old cs new (answer a m)
    → (c : Instruction) → Memᴰ c cs → (Legal c → ⊥)
    → (number_at a ≡ 0 → ⊥) × (m ≡ no_map) × (new ≡ old)

-- where the start's registers have 128 bits, so have those after an accepted list
abbrev pub RegistersFit : Type 0
RegistersFit =
    (old : List ℕ) (cs : List Instruction) (new : List ℕ) (a : Result (Unit {0}) RefusedAt) (m : RegisterMap) → Answered old cs new (answer a m) → number_at a ≡ 0
    → (start : ℕ → ℕ) → ((x : ℕ) → x < 32 → start x < 2 ^ 128)
    → (r : ℕ) → r < 32
    → arm_run cs start r < 2 ^ 128
