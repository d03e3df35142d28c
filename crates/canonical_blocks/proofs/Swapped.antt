-- The theorems of specs/Swapped.antt. Assumes nothing.
use mathlib.Core.List.{List}
use mathlib.Core.Path.{◌≡◌, sym, ap, ◌∙◌}
use Prim.Native.Nat.{ℕ, ◌≤◌, ◌<◌}
use borrow.Author.Tests.{lt-ltb, le-leb}
use Rattle.terms.specs.Expr.{Expr, Var}
use Rattle.neon.specs.declared.Instruction.{Instruction}
use Rattle.pool.specs.Node.{places}
use Rattle.pool.specs.Unfold.{unfold_at}
use Rattle.block_map.specs.Map.{node_of}
use Rattle.block.specs.Block.{BlockAnswer, Answered}
use Rattle.canonical_write.specs.Canonise.{trees_at, room_number, canonise_number}
use Rattle.canonical_write.proofs.Meaning.{same_words}
use Rattle.canonical_exchange.proofs.Swap.{runs-swap}
use Rattle.canonical_blocks.specs.Swapped.{RefusedForRoomAlone, SamePool, CanonicalWhenSwapped}
use Rattle.canonical_blocks.proofs.Accepted.{accepted-swapped}

pub refused-for-room-alone : RefusedForRoomAlone
unfolding canonise_number
refused-for-room-alone old cs new a A z r l buffer out k K =
    let B = A.accepted z in
    K.number ∙ rw (B.checked, lt-ltb (node_of a.map r) a.map.count (B.terms r l).under)

-- two accepted blocks after which register r has the same tree
module _ (old : List ℕ) (cs : List Instruction) (new : List ℕ) (a : BlockAnswer) (A : Answered old cs new a) (z : a.number ≡ 0)
    (old' : List ℕ) (cs' : List Instruction) (new' : List ℕ) (a' : BlockAnswer) (A' : Answered old' cs' new' a') (z' : a'.number ≡ 0)
    (r : ℕ) (l : r < 32) (t : unfold_at new (node_of a.map r) ≡ unfold_at new' (node_of a'.map r)) where
  same-pool : SamePool new a new' a' r
  same-pool buffer out k K buffer' out' k' K' =
      let n : k.number ≡ room_number new (node_of a.map r) buffer = refused-for-room-alone old cs new a A z r l buffer out k K in
      let n' : k'.number ≡ room_number new' (node_of a'.map r) buffer' = refused-for-room-alone old' cs' new' a' A' z' r l buffer' out' k' K' in (
        λ e. n ∙ rw (t, e) (sym n'),
        λ y room.
            let s : trees_at new' (node_of a'.map r) ≤ places buffer' = rw t at (rw (K.done y).0 at room) in
            let y' : k'.number ≡ 0 = n' ∙ rw (le-leb (trees_at new' (node_of a'.map r)) (places buffer') s) in
            (y', (same_words _ _ _ _ _ k K y _ _ _ _ _ k' K' y').1 t),
      )

pub canonical-when-swapped : CanonicalWhenSwapped
canonical-when-swapped before c d after h old new a A z old' new' a' A' room =
    let z' : a'.number ≡ 0 = A'.number ∙ accepted-swapped c d after before (places old) (places old') room (sym A.number ∙ z) in (
      z',
      λ r l.
          same-pool old _ new a A z old' _ new' a' A' z' r l
          (((A.accepted z).terms r l).tree ∙ ap (λ (f : ℕ → Expr). f r) (runs-swap before c d after h Var) ∙ sym ((A'.accepted z').terms r l).tree),
    )
