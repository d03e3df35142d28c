-- What the program `script` answers to a routine in document 01's columns and two registers.
use Rattle.std.specs.Prelude.{cond, ◌&&◌, List, ◌≡◌, ℕ, ◌≤◌, ◌<◌, leb, length}
use Rattle.neon.specs.Refusal.{Refusal, refusal, block_refusal}
use Rattle.pool.specs.Node.{places}
use Rattle.block_map.specs.Map.{node_of}
use Rattle.block.specs.Block.{BlockAnswer}
use Rattle.block.specs.Block as block
use Rattle.script_write.specs.Answer as scripts
use Rattle.line_routine.specs.Routine.{routine_of, routine_refusal}
use Rattle.script_lines.specs.declared.Given.{Given}

abbrev pub most_bytes : ℕ
most_bytes = 65536

-- what refuses the question before a script is written: 7 for a register above 31, 8 for an input that is too long, 10 for a line that is
-- not in columns; then what refuses the block for a pool of so many places
unfoldable pub asked_refusal : (input : List ℕ) (a b places : ℕ) → Refusal
asked_refusal input a b places =
    cond (leb a 31 && leb b 31)
    (cond (leb (length input) most_bytes) (routine_refusal input (block_refusal places (routine_of input))) (refusal 8 0))
    (refusal 7 0)

-- refused: pool and buffer are as they were
pub record Refused (x : Refusal) (pool old : List ℕ) (r : Given) (pool' new : List ℕ) : Type 0 where
  pub number_is : r.number ≡ x.number
  pub position_is : r.position ≡ x.position
  pub length_is : r.length ≡ 0
  pub pool_kept : pool' ≡ pool
  pub buffer_kept : new ≡ old

-- else the pool is as lowering the records leaves it, and the buffer as asking for the script of both registers' nodes leaves it
pub record Asked (input : List ℕ) (a b : ℕ) (pool old : List ℕ) (r : Given) (pool' new : List ℕ) : Type 0 where
  pub answer : BlockAnswer
  pub lowered : block.Answered pool (routine_of input) pool' answer
  pub accepted : answer.number ≡ 0
  pub script : scripts.Answered pool' answer.map.count (node_of answer.map a) (node_of answer.map b) old r.number r.length new
  pub position_is : r.position ≡ 0

pub record ScriptGiven (input : List ℕ) (a b : ℕ) (pool old : List ℕ) (r : Given) (pool' new : List ℕ) : Type 0 where
  pub refused : 0 < (asked_refusal input a b (places pool)).number → Refused (asked_refusal input a b (places pool)) pool old r pool' new
  pub asked : (asked_refusal input a b (places pool)).number ≡ 0 → Asked input a b pool old r pool' new
  pub length_in : r.length ≤ length old
