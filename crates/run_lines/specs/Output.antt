-- What the program `run` writes for an input: 32 registers, then a routine in document 01's columns.
use Rattle.std.specs.Prelude.{Bool, false, cond, not, List, [], ◌∷◌, ◌++◌, ◌≡◌, ℕ, ◌≤◌, leb, eqb, length}
use Rattle.terms.specs.Display.{bytes, decimal}
use Rattle.neon.specs.Refusal.{Refusal, refusal}
use Rattle.neon.specs.Run.{arm_run}
use Rattle.saturation.specs.Saturates.{saturates_run}
use Rattle.text_digits.specs.Writing.{Wrote}
use Rattle.text_series.specs.Series.{up_to}
use Rattle.wide.specs.Registers.{registers_of}
use Rattle.line_routine.specs.Routine.{routine_of, routine_refusal}
use Rattle.run_block.specs.Run.{run_refusal}
use Rattle.run_registers.specs.Digits.{hex_digits}
use Rattle.run_registers.specs.Start.{start_refusal, start_words, rest_of}
use Rattle.run_lines.specs.declared.Written.{Written}

-- ---- the text

-- the mark of a register that changed
abbrev pub mark : (same : Bool) → List ℕ
mark same = cond same [] (bytes " *")

-- 32 digits, a blank, the register's name, the mark
abbrev pub register_line : (r old new : ℕ) → List ℕ
register_line r old new = hex_digits 32 new ++ (bytes " v" ++ (decimal r ++ (mark (eqb old new) ++ (10 ∷ []))))

unfoldable pub registers_text : (start after : ℕ → ℕ) → List ℕ
registers_text start after = up_to 32 λ r. register_line r (start r) (after r)

-- a last line where a lane saturated
abbrev pub after_text : (start after : ℕ → ℕ) → (saturated : Bool) → List ℕ
after_text start after saturated = registers_text start after ++ cond saturated (bytes "saturated" ++ (10 ∷ [])) []

-- ---- a routine on a start

-- the first line that is not in columns; then what refuses the block
abbrev pub rest_refusal : List ℕ → Refusal
rest_refusal rest = routine_refusal rest (run_refusal (routine_of rest))

-- the registers after the Arm run, and whether it saturates
unfoldable pub rest_text : (start : ℕ → ℕ) → (rest : List ℕ) → List ℕ
rest_text start rest = let cs = routine_of rest in after_text start (arm_run cs start) (saturates_run cs start)

-- nothing where it is refused
abbrev pub text_by : Refusal → List ℕ → List ℕ
text_by r text = cond (eqb r.number 0) text []

-- ---- the whole input

abbrev pub most_bytes : ℕ
most_bytes = 65536

-- an input is read in one piece
abbrev pub fits : List ℕ → Bool
fits input = leb (length input) most_bytes

abbrev pub start_of : List ℕ → ℕ → ℕ
start_of input = registers_of (start_words input 32)

-- whether a register of the start is refused
abbrev pub in_start : List ℕ → Bool
in_start input = cond (fits input) (not (eqb (start_refusal input).number 0)) false

-- 8 for an input that is too long; 10 for a register that is not there; then what refuses the routine
unfoldable pub run_number : List ℕ → Refusal
run_number input = cond (fits input) (cond (in_start input) (start_refusal input) (rest_refusal (rest_of input))) (refusal 8 0)

unfoldable pub run_output : List ℕ → List ℕ
run_output input = text_by (run_number input) (rest_text (start_of input) (rest_of input))

pub record RunWritten (input old : List ℕ) (r : Written) (new : List ℕ) : Type 0 where
  pub number_is : r.number ≡ (run_number input).number
  pub position_is : r.position ≡ (run_number input).position
  pub in_start_is : r.in_start ≡ in_start input
  pub wrote : Wrote old 0 (run_output input) r.length new
  pub length_in : r.length ≤ 1536

-- its part after the start, whose registers are 64 words
pub record RanRest (start rest old : List ℕ) (r : Written) (new : List ℕ) : Type 0 where
  pub number_is : r.number ≡ (rest_refusal rest).number
  pub position_is : r.position ≡ (rest_refusal rest).position
  pub in_start_is : r.in_start ≡ false
  pub wrote : Wrote old 0 (text_by (rest_refusal rest) (rest_text (registers_of start) rest)) r.length new
  pub length_in : r.length ≤ 1536
