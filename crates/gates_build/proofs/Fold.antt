-- The conjunction of two literals if no gate is needed, or one that is there already. Assumes nothing.
use mathlib.Core.Path.{◌≡◌, refl, sym, ap, ◌∙◌}
use mathlib.Core.Bool.{Bool, true, false, ◌&&◌, ◌||◌, and_self, and-not_self, true≢false}
use mathlib.Core.List.{List}
use Prim.Native.Nat.{ℕ, ◌/◌, ◌≤◌, ◌<◌}
use native.Mathlib.Omega.{arith}
use lib.Dec.{eqb}
use borrow.Author.Tests.{eqb-true, eqb-false}
use Rattle.gates.specs.Graph.{truth, gate_word}
use Rattle.gates.specs.Grow.{Builds, Under, negated, literal_of}
use Rattle.gates.proofs.Truth.{false-truth, true-truth}
use Rattle.gates.proofs.Laws.{negated-truth, gate-is, stays}
use Rattle.gates_build.specs.Find.{Finds}

-- a and b at the count k
abbrev pub Both : List ℕ → (a b : ℕ) → (ℕ → ℕ) → Bool
Both g a b start = truth start g a && truth start g b

or-false : (x y : Bool) → (x || y) ≡ false → y ≡ false
or-false true y h = absurd (true≢false h)
or-false false y h = h

module _ (g : List ℕ) (k a b : ℕ) where
  pub with-false : a ≡ 0 → Builds g k g 0 k 1 (Both g a b)
  with-false e = rw e (stays (record { under = omega arith; true-at = λ start. rw (false-truth start g) }))

  pub with-true : Under b k → a ≡ 1 → Builds g k g b k 1 (Both g a b)
  with-true u e = rw e (stays (record { under = u; true-at = λ start. rw (true-truth start g) }))

  pub with_itself : Under b k → a ≡ b → Builds g k g b k 1 (Both g a b)
  with_itself u e = rw e (stays (record { under = u; true-at = λ start. sym (and_self (truth start g b)) }))

  pub with-either : Under b k → (eqb a 1 || eqb a b) ≡ true → Builds g k g b k 1 (Both g a b)
  with-either u t = go (eqb a 1) refl t
    where
      go : (x : Bool) → eqb a 1 ≡ x → (x || eqb a b) ≡ true → Builds g k g b k 1 (Both g a b)
      go true e h = with-true u (eqb-true a 1 e)
      go false e h = with_itself u (eqb-true a b h)

  pub with-other : a / 2 ≡ b / 2 → (eqb a 1 || eqb a b) ≡ false → Builds g k g 0 k 1 (Both g a b)
  with-other e h =
      let n = eqb-false a b (or-false (eqb a 1) (eqb a b) h) in
      let other : b ≡ negated a = omega (arith, e, n) in
      rw other
      (stays (record {
        under = omega arith;
        true-at = λ start. false-truth start g ∙ sym
            (ap (λ (x : Bool). truth start g a && x) (negated-truth start g a) ∙ and-not_self (truth start g a));
      }))

  pub with-found : (r : ℕ) → k ≤ 2147479551 → a ≤ b → Under b k → r < k → Finds g k (gate_word a b) b r → Builds g k g (literal_of r) k 1 (Both g a b)
  with-found r small le u h f =
      stays
      (record {
        under = omega arith;
        true-at = gate-is g r a b (f h).0 (omega arith) (omega (arith, f h)) (f h).1;
      })
