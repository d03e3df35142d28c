-- What the lowering of a block with its saturation bit answers, and what pool, map and bit then hold (document 02, S-12).
use Rattle.std.specs.Prelude.{true, List, ◌≡◌, ℕ, ◌*◌, ◌≤◌, ◌<◌, length, get_or}
use Rattle.std.specs.declared.result.Result.{Result}
use Rattle.facts.specs.declared.RefusedAt.{RefusedAt}
use Rattle.facts.specs.Answer.{number_at, position_at, value_or}
use Rattle.terms.specs.Expr.{Var}
use Rattle.neon.specs.declared.Instruction.{Instruction}
use Rattle.trees.specs.Trees.{tree_run}
use Rattle.pool.specs.declared.Node.{Node}
use Rattle.pool.specs.Node.{kind_number, places, none}
use Rattle.pool.specs.Rules.{pool_ok}
use Rattle.pool.specs.Growth.{Reach, NodeIs}
use Rattle.block_map.specs.declared.RegisterMap.{RegisterMap}
use Rattle.block_map.specs.Map.{first_map, no_map}
use Rattle.block_record.specs.Step.{MapIs}
use Rattle.block.specs.Block.{VarAt}
use Rattle.saturation.specs.Bits.{no, block_bit}
use Rattle.saturation_step.specs.declared.Flagged.{Flagged}
use Rattle.saturation_step.specs.Step.{raised}
use Rattle.saturation_run.specs.Run.{FlagLowered}
use Rattle.saturation_block.specs.Size.{flag_refusal}

-- a block that is accepted: nodes 0 to 31 are the registers, and no other is a Var; node 32 is the constant 0 of one bit, reached from the
-- block's bit; then the records
pub record Accepted (old : List ℕ) (cs : List Instruction) (new : List ℕ) (m : RegisterMap) (bit : ℕ) : Type 0 where
  pub terms : MapIs new m (tree_run cs Var)
  pub bit_is : NodeIs new m.count bit 1 (block_bit cs)
  pub checked : pool_ok new m.count ≡ true
  pub long : length new ≡ length old
  pub past : (i : ℕ) → 4 * m.count ≤ i → get_or new i 0 ≡ get_or old i 0
  pub vars : (r : ℕ) → r < 32 → VarAt new r
  pub plain : (n : ℕ) → 32 ≤ n → n < m.count → kind_number new n ≡ 1 → ⊥
  pub zero_is : NodeIs new m.count 32 1 no
  pub zero_reached : Reach new bit 32
  pub lowered : FlagLowered new bit (raised first_map 33) Var cs m

-- an answer as a number and a position, 0 and 0 where nothing is refused, a map and a bit
pub record SaturationAnswer : Type 0 where
  pub number : ℕ
  pub position : ℕ
  pub map : RegisterMap
  pub bit : Node

-- a refusal's map has no node, and its bit is none
abbrev pub answer_of : Result Flagged RefusedAt → SaturationAnswer
answer_of r =
    let f : Flagged = value_or (record { map = no_map; bit = record { 0 = none } }) r in
    record { number = number_at r; position = position_at r; map = f.map; bit = f.bit }

-- the answer for every block: its number and position; refused, no node, no bit and no word; else all of the above
pub record Answered (old : List ℕ) (cs : List Instruction) (new : List ℕ) (a : SaturationAnswer) : Type 0 where
  pub number : a.number ≡ (flag_refusal (places old) cs).number
  pub position : a.position ≡ (flag_refusal (places old) cs).position
  pub refused : (a.number ≡ 0 → ⊥) → (a.map ≡ no_map) × (a.bit.0 ≡ none) × (new ≡ old)
  pub accepted : a.number ≡ 0 → Accepted old cs new a.map a.bit.0
