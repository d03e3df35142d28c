-- Demand 3 of document 01 over one pool (document 02, S-11): the Eq of two registers' terms holds at a start exactly when the Arm runs leave
-- the registers equal there. proofs/Equal.antt proves both.
use Rattle.std.specs.Prelude.{List, ◌↔◌, ◌≡◌, ℕ, ◌≤◌, ◌<◌, leb}
use Rattle.facts.specs.Refuse.{unless}
use Rattle.terms.specs.Value.{value}
use Rattle.neon.specs.declared.Instruction.{Instruction}
use Rattle.neon.specs.Run.{arm_run}
use Rattle.pool.specs.Node.{places}
use Rattle.pool.specs.Unfold.{unfold_at}
use Rattle.block_map.specs.Map.{node_of}
use Rattle.block.specs.Block.{BlockAnswer}
use Rattle.block.specs.Block as block
use Rattle.join.specs.Join.{join_count, Joined}
use Rattle.join.specs.Join as join

-- P of every two accepted blocks, each in its own pool, of a register of each, and of what joining their pools at these answers
abbrev pub OfTwoBlocks : ((cs : List Instruction) (a : BlockAnswer) (r : ℕ) (cs' : List Instruction) (a' : BlockAnswer) (r' : ℕ) (buffer out : List ℕ) (j : Joined) → Type 0) → Type 0
OfTwoBlocks P =
    (old : List ℕ) (cs : List Instruction) (new : List ℕ) (a : BlockAnswer) → block.Answered old cs new a → a.number ≡ 0
    → (old' : List ℕ) (cs' : List Instruction) (new' : List ℕ) (a' : BlockAnswer) → block.Answered old' cs' new' a' → a'.number ≡ 0
    → (r r' : ℕ) → r < 32 → r' < 32
    → (buffer out : List ℕ) (j : Joined)
    → join.Answered new a.map.count new' a'.map.count (node_of a.map r) (node_of a'.map r') buffer out j
    → P cs a r cs' a' r' buffer out j

-- they are joined if the third buffer has room for both
abbrev pub BlocksJoin : Type 0
BlocksJoin = OfTwoBlocks (λ cs a r cs' a' r' buffer out j. j.number ≡ unless (leb (join_count a.map.count a'.map.count) (places buffer)) 6 0)

-- for every start: the registers after the two Arm runs are equal, in all 128 bits, exactly when the Eq's value is 1
abbrev pub EqualWhenEqHolds : Type 0
EqualWhenEqHolds =
    OfTwoBlocks (λ cs a r cs' a' r' buffer out j.
    join_count a.map.count a'.map.count ≤ places buffer → (start : ℕ → ℕ)
    → (arm_run cs start r ≡ arm_run cs' start r') ↔ (value start (unfold_at out j.node) ≡ 1))
