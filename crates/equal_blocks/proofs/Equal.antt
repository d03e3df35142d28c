-- The theorems of specs/Demand.antt. Assumes nothing.
use mathlib.Core.Bool.{not}
use mathlib.Core.List.{List}
use mathlib.Core.Path.{◌≡◌, sym, ap, ◌∙◌}
use Prim.Native.Nat.{ℕ, suc, ◌-◌, ◌/◌, ◌%◌, ◌^◌, ◌<◌}
use native.Mathlib.Nat.{mod-eq_of_lt}
use native.Mathlib.Omega.{arith}
use lib.Dec.{eqb}
use Rattle.terms.specs.Value.{value}
use Rattle.neon.specs.declared.Instruction.{Instruction}
use Rattle.neon.specs.Run.{arm_run}
use Rattle.pool.specs.Unfold.{unfold_at}
use Rattle.block.proofs.Equal as block
use Rattle.saturation_block.proofs.Equal as flagged
use Rattle.canonical_write.proofs.Meaning.{last-is-root}
use Rattle.gates_pool.specs.Bits.{Start}
use Rattle.gates_question.specs.Question.{bits_of}
use Rattle.equal_blocks.specs.Demand.{Lowered, by_block, by_saturation, canonical, LiteralIsOfRegisters, EqualBits, EqualRegisters, EqualLowHalves}

-- the register after the run is its node's value
holds : {cs : List Instruction} {q : ℕ} {ws : List ℕ} {n x : ℕ} → Lowered cs q ws n x → q < 32 → (start : ℕ → ℕ)
    → arm_run cs start q ≡ value start (unfold_at ws x)
holds {cs} {q} (by_block old new a h z) l start = block.registers-hold old cs new a h z start q l
holds {cs} {q} (by_saturation old new a h z) l start = flagged.registers-hold old cs new a h z start q l
holds (canonical ws count node t old new k h z) l start = holds t l start ∙ ap (value start) (sym (last-is-root ws count node old new k h z))

-- and has 128 bits
fits : {cs : List Instruction} {q : ℕ} {ws : List ℕ} {n x : ℕ} → Lowered cs q ws n x → q < 32 → (start : ℕ → ℕ) → Start start → arm_run cs start q < 2 ^ 128
fits {cs} {q} (by_block old new a h z) l start small = block.registers-fit old cs new a h z start small q l
fits {cs} {q} (by_saturation old new a h z) l start small = flagged.registers-fit old cs new a h z start small q l
fits (canonical ws count node t old new k h z) l start small = fits t l start small

pub literal-is-of-registers : LiteralIsOfRegisters
literal-is-of-registers cs q l ws n x t cs' q' l' ws' m y t' hi lo g g' table table' bits bits' r a z start small =
    (a.done z).is start small
    ∙ (λ i. not (eqb (bits_of hi lo (sym (holds t l start) i)) (bits_of hi lo (sym (holds t' l' start) i))))

pub equal-bits : EqualBits
equal-bits cs q l ws n x t cs' q' l' ws' m y t' hi lo a start small =
    ap (bits_of hi lo) (holds t l start) ∙ a.answered.equal a.zero_is start small ∙ ap (bits_of hi lo) (sym (holds t' l' start))

low_bits : (hi v : ℕ) → bits_of hi 0 v ≡ v % 2 ^ suc hi
low_bits hi v = λ i. whole i % 2 ^ suc (all i)
  where
    whole : v / 1 ≡ v
    whole = omega arith

    all : hi - 0 ≡ hi
    all = omega arith

pub equal-registers : EqualRegisters
equal-registers cs q l ws n x t cs' q' l' ws' m y t' a start small =
    sym (mod-eq_of_lt (fits t l start small)) ∙ sym (low_bits 127 (arm_run cs start q))
    ∙ equal-bits cs q l ws n x t cs' q' l' ws' m y t' 127 0 a start small
    ∙ low_bits 127 (arm_run cs' start q')
    ∙ mod-eq_of_lt (fits t' l' start small)

pub equal-low-halves : EqualLowHalves
equal-low-halves cs q l ws n x t cs' q' l' ws' m y t' a start small =
    sym (low_bits 63 (arm_run cs start q)) ∙ equal-bits cs q l ws n x t cs' q' l' ws' m y t' 63 0 a start small ∙ low_bits 63 (arm_run cs' start q')
