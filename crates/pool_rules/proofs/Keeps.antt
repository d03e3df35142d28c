-- Two tests that agree; the rules of a kind with that of the set, over numbers. Assumes nothing.
use mathlib.Core.Path.{◌≡◌, refl, sym}
use mathlib.Core.Bool.{Bool, true, false, ◌&&◌}
use Prim.Native.Nat.{ℕ}
use lib.Dec.{eqb}
use Rattle.pool.specs.Node.{Kind, Cell}
use Rattle.pool.specs.Rules.{ok_kind, set_over}

-- each holds if the other does
pub same : (p q : Bool) → (p ≡ true → q ≡ true) → (q ≡ true → p ≡ true) → p ≡ q
same true q f g = sym (f refl)
same false true f g = g refl
same false false f g = refl

-- one that cannot hold
pub never : (q : Bool) → (q ≡ true → ⊥) → false ≡ q
never true f = absurd (f refl)
never false f = refl

-- k the cell of node n and s its set; A, B and C are the widths of its operands, SA, SB and SC their sets
module _ (n : ℕ) (k : Cell) (A B C s SA SB SC : ℕ) where
  abbrev pub Keeps : Kind → Bool
  Keeps κ = ok_kind κ n k A B C && eqb s (set_over κ k.x SA SB SC)

  abbrev pub Holds : Kind → Type 0
  Holds κ = Keeps κ ≡ true
