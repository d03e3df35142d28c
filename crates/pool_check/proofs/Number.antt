-- The numbers 1 and 5 of what is asked of a node: when each is given, and what holds if neither is. Assumes nothing.
use mathlib.Core.Bool.{Bool, true, false}
use mathlib.Core.List.{List}
use mathlib.Core.Path.{◌≡◌, refl}
use Prim.Native.Nat.{ℕ, ◌<◌}
use native.Mathlib.Omega.{arith}
use lib.Dec.{ltb}
use borrow.Author.Tests.{lt-ltb, ltb-true}
use Rattle.facts.specs.Refuse.{unless}
use Rattle.facts.proofs.Tests.{passed}
use Rattle.pool.specs.Rules.{pool_ok, node_number}

not-zero : {k : ℕ} → 0 < k → k ≡ 0 → ⊥
not-zero h e = omega arith

-- a refusal is the same whatever follows
same-refusal : (good inside : Bool) (rest : ℕ) → 0 < unless good 1 (unless inside 5 0) → unless good 1 (unless inside 5 0) ≡ unless good 1 (unless inside 5 rest)
same-refusal false inside rest h = refl
same-refusal true false rest h = refl
same-refusal true true rest h = absurd (not-zero h refl)

module _ (ws : List ℕ) (count n : ℕ) where
  pub good-node : (rest : ℕ) → pool_ok ws count ≡ true → n < count → node_number ws count n rest ≡ rest
  good-node rest h l = rw (h, lt-ltb n count l)

  pub first-refusal : (rest : ℕ) → 0 < node_number ws count n 0 → node_number ws count n 0 ≡ node_number ws count n rest
  first-refusal rest h = same-refusal (pool_ok ws count) (ltb n count) rest h

  -- a pool and a node that are not refused
  pub accepted : (rest : ℕ) → node_number ws count n rest ≡ 0 → (pool_ok ws count ≡ true) × (n < count) × (rest ≡ 0)
  accepted rest e =
      let p = passed (pool_ok ws count) (not-zero (omega arith)) e in
      let q = passed (ltb n count) (not-zero (omega arith)) p.1 in
      (p.0, ltb-true _ _ q.0, q.1)
