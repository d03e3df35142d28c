-- The words of a list in which those of one node are written. Assumes nothing.
use mathlib.Core.Path.{◌≡◌, ◌∙◌}
use mathlib.Core.List.{List}
use Prim.Native.Nat.{ℕ, zero, suc, ◌+◌, ◌*◌, ◌≤◌, ◌<◌}
use native.Mathlib.Omega.{arith}
use lib.ListN.{length, get_or, set, length-set}
use lib.Seq.{get_or-set_same, get_or-set_other}
use Rattle.pool.specs.Node.{write_node}

module _ (out : List ℕ) (k w0 w1 x y : ℕ) (room : 4 * (k + 1) ≤ length out) where
  l1 : List ℕ
  l1 = set out (4 * k) w0

  l2 : List ℕ
  unfolding l1
  l2 = set l1 (4 * k + 1) w1

  l3 : List ℕ
  unfolding l2
  l3 = set l2 (4 * k + 2) x

  n1 : length l1 ≡ length out
  unfolding l1
  n1 = simp length-set

  n2 : length l2 ≡ length out
  unfolding l2
  n2 = simp length-set

  n3 : length l3 ≡ length out
  unfolding l3
  n3 = simp length-set

  pub other : (i : ℕ) → (i ≡ 4 * k → ⊥) → (i ≡ 4 * k + 1 → ⊥) → (i ≡ 4 * k + 2 → ⊥) → (i ≡ 4 * k + 3 → ⊥) → get_or (write_node out k w0 w1 x y) i 0 ≡ get_or out i 0
  unfolding l1 l2 l3
  other i a b c d =
      get_or-set_other l3 (4 * k + 3) i y 0 d ∙ get_or-set_other l2 (4 * k + 2) i x 0 c ∙ get_or-set_other l1 (4 * k + 1) i w1 0 b ∙ get_or-set_other out (4 * k) i w0 0 a

  pub f3 : get_or (write_node out k w0 w1 x y) (4 * k + 3) 0 ≡ y
  unfolding l1 l2 l3
  f3 = get_or-set_same l3 (4 * k + 3) y 0 (omega (arith, n3))

  pub f2 : get_or (write_node out k w0 w1 x y) (4 * k + 2) 0 ≡ x
  unfolding l1 l2 l3
  f2 = get_or-set_other l3 (4 * k + 3) (4 * k + 2) y 0 (omega arith) ∙ get_or-set_same l2 (4 * k + 2) x 0 (omega (arith, n2))

  pub f1 : get_or (write_node out k w0 w1 x y) (4 * k + 1) 0 ≡ w1
  unfolding l1 l2 l3
  f1 =
      get_or-set_other l3 (4 * k + 3) (4 * k + 1) y 0 (omega arith) ∙ get_or-set_other l2 (4 * k + 2) (4 * k + 1) x 0 (omega arith)
      ∙ get_or-set_same l1 (4 * k + 1) w1 0 (omega (arith, n1))

  pub f0 : get_or (write_node out k w0 w1 x y) (4 * k) 0 ≡ w0
  unfolding l1 l2 l3
  f0 =
      get_or-set_other l3 (4 * k + 3) (4 * k) y 0 (omega arith) ∙ get_or-set_other l2 (4 * k + 2) (4 * k) x 0 (omega arith)
      ∙ get_or-set_other l1 (4 * k + 1) (4 * k) w1 0 (omega arith)
      ∙ get_or-set_same out (4 * k) w0 0 (omega arith)

-- of four words
pub four : (P : ℕ → Type 0) → P 0 → P 1 → P 2 → P 3 → (j : ℕ) → j < 4 → P j
four P a b c d zero g = a
four P a b c d (suc zero) g = b
four P a b c d (suc (suc zero)) g = c
four P a b c d (suc (suc (suc zero))) g = d
four P a b c d (suc (suc (suc (suc i)))) g = absurd (omega arith)
