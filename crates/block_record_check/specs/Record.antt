-- A record as six flat numbers.
use Rattle.std.specs.Prelude.{List, ℕ, ◌+◌, ◌*◌, get_or}
use Rattle.neon.specs.declared.Instruction.{Instruction}

abbrev pub instruction : (operation arrangement i d n m : ℕ) → Instruction
instruction operation arrangement i d n m = record { operation = operation; arrangement = arrangement; i = i; d = d; n = n; m = m }

-- record j
abbrev pub record_at : List ℕ → ℕ → Instruction
record_at flat j =
    instruction (get_or flat (6 * j) 0) (get_or flat (6 * j + 1) 0) (get_or flat (6 * j + 2) 0) (get_or flat (6 * j + 3) 0) (get_or flat (6 * j + 4) 0) (get_or flat (6 * j + 5) 0)
