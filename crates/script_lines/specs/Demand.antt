-- What the bytes that the program `script` writes mean (document 02, S-1): demand 3 over its input and its output.
use Rattle.std.specs.Prelude.{List, ◌↔◌, ◌⊎◌, ◌≡◌, ℕ, take}
use Rattle.neon.specs.Run.{arm_run}
use Rattle.pool.specs.Node.{places}
use Rattle.script_meaning.specs.Demand.{ModelOf, Holds}
use Rattle.line_routine.specs.Routine.{routine_of}
use Rattle.script_lines.specs.declared.Given.{Given}
use Rattle.script_lines.specs.Output.{asked_refusal, ScriptGiven}

-- with 0: registers a and b differ after the Arm run exactly when the assertion of the bytes holds in the start's model
abbrev pub OutputMeans : Type 0
OutputMeans =
    (input : List ℕ) (a b : ℕ) (pool old : List ℕ) (r : Given) (pool' new : List ℕ) → ScriptGiven input a b pool old r pool' new → r.number ≡ 0
    → (start : ℕ → ℕ) (model : List ℕ → ℕ) → ModelOf start model
    → (arm_run (routine_of input) start a ≡ arm_run (routine_of input) start b → ⊥) ↔ Holds model (take r.length new)

-- what is asked is refused by 9 alone, for a script longer than the buffer
abbrev pub AskedFits : Type 0
AskedFits =
    (input : List ℕ) (a b : ℕ) (pool old : List ℕ) (r : Given) (pool' new : List ℕ) → ScriptGiven input a b pool old r pool' new
    → (asked_refusal input a b (places pool)).number ≡ 0 → (r.number ≡ 0) ⊎ (r.number ≡ 9)
