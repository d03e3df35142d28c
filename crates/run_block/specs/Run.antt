-- What the runner answers (document 02, S-2): a result, a record, a block on the 32 registers that 64 words hold.
use Rattle.std.specs.Prelude.{Bool, true, false, cond, List, ◌≡◌, ℕ, ◌+◌, ◌*◌, ◌%◌, ◌^◌, ◌<◌, length}
use Rattle.neon.specs.declared.Instruction.{Instruction}
use Rattle.neon.specs.Op.{Op, Arrangement, full}
use Rattle.neon.specs.Form.{form, by_element, first_full, second_full}
use Rattle.neon.specs.Arm.{arm_result}
use Rattle.neon.specs.Run.{read_bits, arm_step, arm_run}
use Rattle.neon.specs.Refusal.{Refusal, count_number, refusal_by}
use Rattle.saturation.specs.Saturates.{saturates, saturates_step, saturates_run}
use Rattle.wide.specs.Number.{words}
use Rattle.wide.specs.Registers.{registers_of}
use Rattle.run_block.specs.declared.Ran.{Ran}

-- ---- a block

-- the refusals of lowering, with no room condition
abbrev pub run_refusal : List Instruction → Refusal
run_refusal cs = refusal_by (count_number (length cs) 0) cs

-- the answer for every block: its number and position; accepted, the registers of the Arm run; refused, the start's
pub record RunAnswered (start : List ℕ) (cs : List Instruction) (number position : ℕ) (new : List ℕ) : Type 0 where
  pub number_is : number ≡ (run_refusal cs).number
  pub position_is : position ≡ (run_refusal cs).position
  pub ran : number ≡ 0 → (r : ℕ) → r < 32 → registers_of new r ≡ arm_run cs (registers_of start) r
  pub kept : 0 < number → new ≡ start

-- whether a lane saturated; not in a refused block
pub record FlagAnswered (start : List ℕ) (cs : List Instruction) (number : ℕ) (saturated : Bool) : Type 0 where
  pub ran : number ≡ 0 → saturated ≡ saturates_run cs (registers_of start)
  pub kept : 0 < number → saturated ≡ false

-- ---- its parts

-- the bits of a result, and whether a lane saturated
pub record Made (new : ℕ) (saturated : Bool) (r : Ran) : Type 0 where
  pub bits_are : words r.low r.high 0 ≡ new
  pub saturated_is : r.saturated ≡ saturated

-- bits that go above 64 others are 64
abbrev pub Short : Bool → Ran → Type 0
Short above x = above ≡ true → words x.low x.high 0 < 2 ^ 64

abbrev pub Placed : Bool → Ran → ℕ → Ran → Type 0
Placed above x d r = Made (cond above (words x.low x.high 0 * 2 ^ 64 + d % 2 ^ 64) (words x.low x.high 0)) x.saturated r

-- of an instruction on the registers d, n, m whole
abbrev pub ResultOf : Op → Arrangement → (i d a b : ℕ) → Ran → Type 0
ResultOf o v i d a b r =
    let old = read_bits (full v) d in
    let first = read_bits (first_full (form o).lanes (full v)) a in
    let second = read_bits (second_full (form o).lanes (by_element o) (full v)) b in
    Made (arm_result o v i old first second) (saturates o v i old first second) r

-- a record, a list of records
pub record SteppedBy (c : Instruction) (old new : List ℕ) (saturated : Bool) : Type 0 where
  pub registers_are : (r : ℕ) → r < 32 → registers_of new r ≡ arm_step c (registers_of old) r
  pub saturated_is : saturated ≡ saturates_step c (registers_of old)

pub record RanBy (cs : List Instruction) (old new : List ℕ) (saturated : Bool) : Type 0 where
  pub registers_are : (r : ℕ) → r < 32 → registers_of new r ≡ arm_run cs (registers_of old) r
  pub saturated_is : saturated ≡ saturates_run cs (registers_of old)
