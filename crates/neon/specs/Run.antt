-- The Arm run of a block (document 01, "Pool"): the records in order, each on the registers that the one before left.
use Rattle.std.specs.Prelude.{Bool, cond, List, [], ◌∷◌, ℕ, ◌%◌, ◌^◌, eqb}
use Rattle.neon.specs.declared.Instruction.{Instruction}
use Rattle.neon.specs.Op.{op_at, arrangement_at, full}
use Rattle.neon.specs.Form.{form, first_full, second_full, by_element}
use Rattle.neon.specs.Arm.{arm_result}

-- the registers, with d set to x
abbrev pub update {ℓ} : {A : Type ℓ} → ℕ → A → (ℕ → A) → ℕ → A
update d x regs r = cond (eqb r d) x (regs r)

-- a register as it is read: whole, or its low half
abbrev pub read_bits : Bool → ℕ → ℕ
read_bits whole x = cond whole x (x % 2 ^ 64)

-- n, m and d are read, then d takes the result; above one of 64 bits there are zeros
unfoldable pub arm_step : Instruction → (ℕ → ℕ) → ℕ → ℕ
arm_step c regs =
    let o = op_at c.operation in
    let v = arrangement_at c.arrangement in
    let l = (form o).lanes in
    update c.d
    (arm_result o v c.i (read_bits (full v) (regs c.d)) (read_bits (first_full l (full v)) (regs c.n))
    (read_bits (second_full l (by_element o) (full v)) (regs c.m)))
    regs

unfoldable pub arm_run : List Instruction → (ℕ → ℕ) → ℕ → ℕ
arm_run [] regs = regs
arm_run (c ∷ cs) regs = arm_run cs (arm_step c regs)
