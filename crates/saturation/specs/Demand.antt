-- Which operations can saturate (document 02, S-12), and that a lane saturates exactly when its clamp alters the exact result.
use Rattle.std.specs.Prelude.{Bool, true, false, ◌&&◌, ◌||◌, ◌↔◌, ◌≡◌, ℕ, leb, ℤ}
use Rattle.neon.specs.declared.Instruction.{Instruction}
use Rattle.neon.specs.Arm.{c_s, c_u}
use Rattle.neon.specs.Refusal.{Legal}
use Rattle.saturation.specs.Saturates.{beyond_s, beyond_u, saturates_step}

-- document 02's list
abbrev pub between : (low high k : ℕ) → Bool
between low high k = leb low k && leb k high

unfoldable pub can_saturate : (operation : ℕ) → Bool
can_saturate k = between 2 4 k || between 13 16 k || between 19 22 k || between 27 29 k || between 32 55 k

-- an accepted record of another operation saturates on no registers
abbrev pub OthersNever : Type 0
OthersNever = (c : Instruction) → Legal c → can_saturate c.operation ≡ false → (regs : ℕ → ℕ) → saturates_step c regs ≡ false

-- each of these has an accepted record that saturates on some registers
abbrev pub EachCan : Type 0
EachCan =
    (operation : ℕ) → can_saturate operation ≡ true
    → (c : Instruction) × (regs : ℕ → ℕ) × (c.operation ≡ operation) × Legal c × (saturates_step c regs ≡ true)

-- outside the range means that the clamp alters
abbrev pub OutsideIsAltered : Type 0
OutsideIsAltered = (n : ℕ) (z : ℤ) → ((beyond_s n z ≡ false) ↔ (c_s n z ≡ z)) × ((beyond_u n z ≡ false) ↔ (c_u n z ≡ z))
