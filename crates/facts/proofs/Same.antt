-- The test whether two lists are the same tells just that. Assumes nothing.
use mathlib.Core.Path.{◌≡◌, refl}
use mathlib.Core.Bool.{Bool, true, false, false≢true}
use mathlib.Core.List.{List, [], ◌∷◌}
use Prim.Native.Nat.{ℕ}
use lib.Dec.{eqb}
use borrow.Author.Tests.{eqb-true, eq-eqb}
use Rattle.facts.specs.Same.{same}
use Rattle.facts.proofs.Tests.{and_both}

pub same_refl : (s : List ℕ) → same s s ≡ true
same_refl [] = refl
same_refl (c ∷ s) = rw (eq-eqb c c refl, same_refl s)

pub same-eq : (s t : List ℕ) → same s t ≡ true → s ≡ t
same-eq [] [] h = refl
same-eq [] (d ∷ t) h = absurd (false≢true h)
same-eq (c ∷ s) [] h = absurd (false≢true h)
same-eq (c ∷ s) (d ∷ t) h = let p = and_both (eqb c d) (same s t) h in λ i. eqb-true c d p.0 i ∷ same-eq s t p.1 i

pub not_same : (s t : List ℕ) → (s ≡ t → ⊥) → same s t ≡ false
not_same s t h = go (same s t) refl
  where
    go : (b : Bool) → same s t ≡ b → same s t ≡ false
    go true e = absurd (h (same-eq s t e))
    go false e = e
