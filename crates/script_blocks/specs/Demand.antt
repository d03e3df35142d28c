-- Demand 3 of document 01 over scripts (document 02, S-1: "the value rule now speaks of scripts too"). The Arm run is fed a start and the
-- records, the reader of scripts a model and bytes; neither knows anything of the pool.
use Rattle.std.specs.Prelude.{List, ◌↔◌, ◌≡◌, ℕ, ◌<◌, take}
use Rattle.std.proofs.Math.Option.{some}
use Rattle.neon.specs.declared.Instruction.{Instruction}
use Rattle.neon.specs.Run.{arm_run}
use Rattle.block_map.specs.Map.{node_of}
use Rattle.block.specs.Block.{BlockAnswer}
use Rattle.block.specs.Block as block
use Rattle.script_meaning.specs.Values.{meaning, find}
use Rattle.script_meaning.specs.Meaning.{Script, meant}
use Rattle.script_meaning.specs.Script.{name_of}
use Rattle.script_meaning.specs.Demand.{ModelOf, Holds}
use Rattle.script_length.specs.Answer.{script_number}
use Rattle.script_write.specs.Answer as scripts

-- the registers of an accepted block may be chosen: their script is refused only if room is lacking
abbrev pub RegistersChosen : Type 0
RegistersChosen =
    (old : List ℕ) (cs : List Instruction) (new : List ℕ) (a : BlockAnswer) → block.Answered old cs new a → a.number ≡ 0
    → (r r' rest : ℕ) → r < 32 → r' < 32
    → script_number new a.map.count (node_of a.map r) (node_of a.map r') rest ≡ rest

-- for every start and every accepted block: two registers after the Arm run differ exactly when the assertion of their script holds in
-- the start's model
abbrev pub DifferWhenScriptHolds : Type 0
DifferWhenScriptHolds =
    (old : List ℕ) (cs : List Instruction) (new : List ℕ) (a : BlockAnswer) → block.Answered old cs new a → a.number ≡ 0
    → (r r' : ℕ) → r < 32 → r' < 32
    → (buffer : List ℕ) (len : ℕ) (out : List ℕ)
    → scripts.Answered new a.map.count (node_of a.map r) (node_of a.map r') buffer 0 len out
    → (start : ℕ → ℕ) (model : List ℕ → ℕ) → ModelOf start model
    → (arm_run cs start r ≡ arm_run cs start r' → ⊥) ↔ Holds model (take len out)

-- for every start and every accepted block: in the script of any two nodes, read by the standard, the name of each register's node has the value of
-- that register after the Arm run
abbrev pub NamesHold : Type 0
NamesHold =
    (old : List ℕ) (cs : List Instruction) (new : List ℕ) (a : BlockAnswer) → block.Answered old cs new a → a.number ≡ 0
    → (x y : ℕ) (buffer : List ℕ) (len : ℕ) (out : List ℕ) → scripts.Answered new a.map.count x y buffer 0 len out
    → (start : ℕ → ℕ) (model : List ℕ → ℕ) → ModelOf start model
    → (s : Script) × (meant model (take len out) ≡ some s)
    × ((r : ℕ) → r < 32 → find s.defined (name_of new (node_of a.map r)) ≡ some (meaning 128 (arm_run cs start r)))
