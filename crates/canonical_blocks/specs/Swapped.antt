-- Document 02, S-13, of blocks: two neighbouring instructions of an accepted block may be exchanged if neither writes a register that
-- the other reads or writes. The block is then accepted too, and every register's canonical pool is the same, word for word.
-- proofs/Swapped.antt proves it of any answers that the contracts of lower_block and canonise allow.
use Rattle.std.specs.Prelude.{true, List, ◌∷◌, ◌++◌, ◌≡◌, ℕ, ◌≤◌, ◌<◌}
use Rattle.neon.specs.declared.Instruction.{Instruction}
use Rattle.pool.specs.Node.{places}
use Rattle.block_map.specs.Map.{node_of}
use Rattle.block.specs.Block.{BlockAnswer}
use Rattle.block.specs.Block as block
use Rattle.canonical_write.specs.Canonise.{Canonised}
use Rattle.canonical_write.specs.Canonise as canonise
use Rattle.canonical_write.specs.Meaning.{SameWords}
use Rattle.canonical_exchange.specs.Apart.{apart}

-- what canonise answers for register r, in the pool that a block left
abbrev pub RegisterAnswered : (new : List ℕ) (a : BlockAnswer) (r : ℕ) (buffer out : List ℕ) (k : Canonised) → Type 0
RegisterAnswered new a r buffer out k = canonise.Answered new a.map.count (node_of a.map r) buffer out k

-- a register of an accepted block is canonised if there is room for its subtrees: 6 and no other number refuses it
abbrev pub RefusedForRoomAlone : Type 0
RefusedForRoomAlone =
    (old : List ℕ) (cs : List Instruction) (new : List ℕ) (a : BlockAnswer) → block.Answered old cs new a → a.number ≡ 0
    → (r : ℕ) → r < 32
    → (buffer out : List ℕ) (k : Canonised) → RegisterAnswered new a r buffer out k
    → k.number ≡ canonise.room_number new (node_of a.map r) buffer

-- register r after one block and after another: with as many places lent both get the same number; and if the first is done, the second
-- is done in as many places as that has nodes, with the same words
abbrev pub SamePool : (new : List ℕ) (a : BlockAnswer) (new' : List ℕ) (a' : BlockAnswer) (r : ℕ) → Type 0
SamePool new a new' a' r =
    (buffer out : List ℕ) (k : Canonised) → RegisterAnswered new a r buffer out k
    → (buffer' out' : List ℕ) (k' : Canonised) → RegisterAnswered new' a' r buffer' out' k'
    → (places buffer ≡ places buffer' → k.number ≡ k'.number) × (k.number ≡ 0 → k.count ≤ places buffer' → (k'.number ≡ 0) × SameWords out out' k k')

-- accepted in one order, a block is accepted in the other, in a pool of no fewer places; and each register has the same canonical pool
abbrev pub CanonicalWhenSwapped : Type 0
CanonicalWhenSwapped =
    (before : List Instruction) (c d : Instruction) (after : List Instruction) → apart c d ≡ true
    → (old new : List ℕ) (a : BlockAnswer) → block.Answered old (before ++ (c ∷ d ∷ after)) new a → a.number ≡ 0
    → (old' new' : List ℕ) (a' : BlockAnswer) → block.Answered old' (before ++ (d ∷ c ∷ after)) new' a' → places old ≤ places old'
    → (a'.number ≡ 0) × ((r : ℕ) → r < 32 → SamePool new a new' a' r)
