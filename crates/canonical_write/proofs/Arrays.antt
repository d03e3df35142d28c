-- Arrays of one number, and what canonising answers. Assumes nothing.
use mathlib.Core.Path.{◌≡◌, refl, sym, ◌∙◌}
use mathlib.Core.Bool.{true}
use mathlib.Core.List.{List}
use Prim.Native.Nat.{ℕ, zero, suc, ◌+◌, ◌*◌, ◌≤◌, ◌<◌}
use native.Mathlib.Omega.{arith}
use lib.Dec.{leb}
use lib.ListN.{length, get_or, replicate, length-replicate, get_or-replicate}
use borrow.Author.Tests.{lt-ltb, leb-true}
use Rattle.pool.specs.Node.{places}
use Rattle.facts.proofs.Tests.{and_both}
use Rattle.pool.specs.Rules.{pool_ok, ok_pool, node_number, Valid}
use Rattle.pool_check.proofs.Number.{first-refusal}
use Rattle.canonical_classes.proofs.Steps.{valid-le}
use Rattle.canonical_classes.specs.Class.{Long, Empty}
use Rattle.canonical_order.specs.Walk.{AllNone}
use Rattle.canonical_write.specs.Canonise.{Canonised, room_number, canonise_number, RootAnswered, Answered}

zero-at : (n i : ℕ) → ◌≡◌ {A = ℕ} (get_or (replicate n 0) i 0) 0
zero-at zero i = refl
zero-at (suc n) zero = refl
zero-at (suc n) (suc i) = zero-at n i

pub zeros-are : (n : ℕ) → (length {A = ℕ} (replicate n 0) ≡ n) × Empty (replicate n 0)
zeros-are n = (length-replicate n 0, zero-at n)

pub nones-are : (n : ℕ) → n ≡ 65536 → Long (replicate n 65535) × AllNone (replicate n 65535)
nones-are n e = (length-replicate n 65535 ∙ e, λ m h. get_or-replicate n m 65535 0 (omega arith))

-- past the first two refusals
pub passed : (ws : List ℕ) (count root : ℕ) → pool_ok ws count ≡ true → root < count → Valid ws (root + 1) × (4 * (root + 1) ≤ length ws) × (root < 65535)
passed ws count root e h =
    let p = and_both (leb count (places ws)) (ok_pool ws count) e in
    let l : count ≤ places ws = leb-true count (places ws) p.0 in
    (valid-le ws (root + 1) count (omega arith) p.1, omega arith, omega arith)

-- ---- the answers

module _ (ws : List ℕ) (count root : ℕ) (old : List ℕ) where
  pub bad-node : {k : ℕ} → k ≡ node_number ws count root 0 → 0 < k → Answered ws count root old old (record { number = k; count = 0 })
  unfolding canonise_number
  bad-node {k} e h =
      let r : 0 < node_number ws count root 0 = rw e at h in
      record { number = e ∙ first-refusal ws count root (room_number ws root old) r; refused = λ f. (refl, refl); done = λ f. absurd (omega (arith, f, h)) }

  pub root-answered : pool_ok ws count ≡ true → root < count → {new : List ℕ} {a : Canonised} → RootAnswered ws root old new a → Answered ws count root old new a
  unfolding canonise_number
  root-answered e h A = record { number = A.number ∙ sym (rw (e, lt-ltb root count h)); refused = A.refused; done = A.done }
