-- A block's records as flat numbers, six each, and the answer that refuses it.
use Rattle.std.specs.Prelude.{List, [], ◌∷◌, ◌≡◌, ℕ, zero, suc, ◌/◌, length}
use Rattle.std.specs.declared.result.Result.{Result}
use Rattle.facts.specs.declared.RefusedAt.{RefusedAt}
use Rattle.facts.specs.Answer.{number_at, position_at}
use Rattle.neon.specs.declared.Instruction.{Instruction}
use Rattle.neon.specs.Refusal.{Refusal}
use Rattle.block_record_check.specs.Record.{record_at}

-- k records, from record j on
unfoldable pub records_from : List ℕ → ℕ → ℕ → List Instruction
records_from flat j zero = []
records_from flat j (suc k) = record_at flat j ∷ records_from flat (suc j) k

-- all whole records
abbrev pub records_of : List ℕ → List Instruction
records_of flat = records_from flat 0 (length flat / 6)

abbrev pub Refuses : {A : Type 0} → Result A RefusedAt → Refusal → Type 0
Refuses r x = (number_at r ≡ x.number) × (position_at r ≡ x.position)
