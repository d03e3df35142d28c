-- The first place that is refused, by the places before it. Assumes nothing.
use mathlib.Core.Bool.{Bool, true, false, cond}
use mathlib.Core.Logic.{⊎_elim}
use mathlib.Core.Path.{◌≡◌, refl, ap, ◌∙◌, subst}
use Prim.Native.Nat.{ℕ, zero, suc, ◌+◌, ◌≤◌, ◌<◌}
use native.Mathlib.Nat.{eq-or-lt_of_le}
use native.Mathlib.Omega.{arith}
use lib.Dec.{eqb}
use borrow.Author.Tests.{ne_eqb, eqb-true, eqb-false}
use Rattle.facts.specs.Refuse.{unless}
use Rattle.facts.proofs.Tests.{passed}
use Rattle.neon.specs.Refusal.{Refusal, refusal, first_of, first_refusal, PassedTo}

-- neither of two refuses
pub first-zero : (r rest : Refusal) → (first_of r rest).number ≡ 0 → (r.number ≡ 0) × (rest.number ≡ 0)
first-zero r rest e = go (eqb r.number 0) refl e
  where
    go : (b : Bool) → eqb r.number 0 ≡ b → (cond b rest r).number ≡ 0 → (r.number ≡ 0) × (rest.number ≡ 0)
    go true q z = (eqb-true r.number 0 q, z)
    go false q z = absurd (eqb-false r.number 0 q z)

module _ (passes : ℕ → Bool) where
  -- one place more passes
  pub one_more : (r : ℕ) → ((i : ℕ) → i < r → passes i ≡ true) → passes r ≡ true → (i : ℕ) → i < r + 1 → passes i ≡ true
  one_more r g h i l = ⊎_elim (λ e. ap passes e ∙ h) (λ s. g i s) (eq-or-lt_of_le (let q : i ≤ r = omega arith in q))

  -- all places pass
  pub passed-all : (k : ℕ) → ((i : ℕ) → i < k → passes i ≡ true) → PassedTo passes k k
  passed-all k g = record { most = omega arith; before = g; first = λ h. absurd (omega arith) }

  module _ (number : ℕ) where
    from-good : (k j : ℕ) → ((i : ℕ) → j ≤ i → i < j + k → passes i ≡ true) → first_refusal passes number k j ≡ refusal 0 0
    unfolding first_refusal
    from-good zero j g = refl
    from-good (suc k) j g = rw (first_refusal, g j (omega arith) (omega arith)) (from-good k (suc j) (λ i l h. g i (omega arith) (omega arith)))

    module _ (some : 0 < number) where
      from-bad : (k j r : ℕ) → j ≤ r → r < j + k → ((i : ℕ) → j ≤ i → i < r → passes i ≡ true) → passes r ≡ false → first_refusal passes number k j ≡ refusal number r
      unfolding first_refusal
      from-bad zero j r l h g b = absurd (omega arith)
      from-bad (suc k) j r l h g b =
          ⊎_elim
          (λ e. let f : passes j ≡ false = ap passes e ∙ b in rw (first_refusal, f, ne_eqb number 0 (λ z. omega (arith, z, some))) (ap (refusal number) e))
          (λ s. rw (first_refusal, g j (omega arith) s) (from-bad k (suc j) r s (omega arith) (λ i m n. g i (omega arith) n) b))
          (eq-or-lt_of_le l)

      from-none : (k j : ℕ) → (first_refusal passes number k j).number ≡ 0 → (i : ℕ) → j ≤ i → i < j + k → passes i ≡ true
      unfolding first_refusal
      from-none zero j e i l h = absurd (omega arith)
      from-none (suc k) j e i l h =
          let z = first-zero (refusal (unless (passes j) number 0) j) (first_refusal passes number k (suc j)) e in
          let here = (passed (passes j) (λ q. absurd (omega (arith, q, some))) z.0).0 in
          ⊎_elim (λ s. subst (λ (x : ℕ). passes x ≡ true) s here) (λ s. from-none k (suc j) z.1 i s (omega arith)) (eq-or-lt_of_le l)

      -- if none is refused, all pass
      pub none-refused : (k : ℕ) → (first_refusal passes number k 0).number ≡ 0 → PassedTo passes k k
      none-refused k e = passed-all k (λ i h. from-none k 0 e i (omega arith) (omega arith))

module _ {passes : ℕ → Bool} {k r : ℕ} (g : PassedTo passes k r) (number : ℕ) where
  pub all_pass : k ≤ r → first_refusal passes number k 0 ≡ refusal 0 0
  all_pass h = from-good passes number k 0 (λ i l m. g.before i (omega arith))

  pub first-fails : 0 < number → r < k → first_refusal passes number k 0 ≡ refusal number r
  first-fails some h = from-bad passes number some k 0 r (omega arith) (omega arith) (λ i l m. g.before i m) (g.first h)
