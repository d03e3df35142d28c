-- Which registers matter: the set in a node is that of its term, and a register that is not in it does not matter (document 02, S-4).
use Rattle.std.specs.Prelude.{true, List, ◌≡◌, ℕ, ◌<◌}
use Rattle.terms.specs.Expr.{Expr}
use Rattle.terms.specs.Value.{value}
use Rattle.terms.specs.Registers.{registers, InSet, Agree}
use Rattle.pool.specs.Node.{set_at}
use Rattle.pool.specs.Rules.{pool_ok}
use Rattle.pool.specs.Unfold.{unfold_at}

-- in a pool that passes the check the set of a node is what the walk over its whole tree finds
abbrev pub SetIsTheWalk : Type 0
SetIsTheWalk = (ws : List ℕ) (count n : ℕ) → pool_ok ws count ≡ true → n < count → set_at ws n ≡ registers (unfold_at ws n)

-- two starts that agree on the registers of a term give it the same value
abbrev pub AgreeingStarts : Type 0
AgreeingStarts = (t : Expr) (start start' : ℕ → ℕ) → Agree start start' (registers t) → value start t ≡ value start' t

-- so a register x that is not among them does not matter: starts that differ there alone give the term the same value
abbrev pub OthersDoNotMatter : Type 0
OthersDoNotMatter =
    (t : Expr) (x : ℕ) → (InSet x (registers t) → ⊥) → (start start' : ℕ → ℕ) → ((y : ℕ) → (y ≡ x → ⊥) → start y ≡ start' y)
    → value start t ≡ value start' t
