-- How long the texts between operands are. Assumes nothing.
use mathlib.Core.Path.{◌≡◌, refl}
use Prim.Native.Nat.{ℕ, ◌≤◌, ◌<◌}
use native.Mathlib.Omega.{arith}
use lib.ListN.{length}
use Rattle.pool.specs.Node.{Kind, kinds}
use Rattle.pool_rules.proofs.Numbers.{within}
use Rattle.text_operators.specs.Between.{between_of, between_text}

-- the kinds 3 to 8, 9, 10 and 11, 12 to 14
abbrev Long : ℕ → Kind → Type 0
Long l κ = length (between_of κ) ≡ l

pub operator-three : (k : ℕ) → 3 ≤ k → k < 9 → length (between_text k) ≡ 3
unfolding between_text kinds
operator-three k h l = within (Long 3) 3 6 (refl, (refl, (refl, (refl, (refl, (refl, tt)))))) k h (omega arith)

pub operator-shl : (k : ℕ) → 9 ≤ k → k < 10 → length (between_text k) ≡ 4
unfolding between_text kinds
operator-shl k h l = within (Long 4) 9 1 (refl, tt) k h (omega arith)

pub operator-shr : (k : ℕ) → 10 ≤ k → k < 12 → length (between_text k) ≡ 5
unfolding between_text kinds
operator-shr k h l = within (Long 5) 10 2 (refl, (refl, tt)) k h (omega arith)

pub operator-compare : (k : ℕ) → 12 ≤ k → k < 15 → length (between_text k) ≡ 4
unfolding between_text kinds
operator-compare k h l = within (Long 4) 12 3 (refl, (refl, (refl, tt))) k h (omega arith)
