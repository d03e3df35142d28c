-- What `evaluate` answers, by the way that it took; the theorems of specs/Answer.antt. Assumes nothing.
use mathlib.Core.Bool.{true}
use mathlib.Core.List.{List}
use mathlib.Core.Path.{◌≡◌, refl, sym, ◌∙◌}
use Prim.Native.Nat.{ℕ, zero, suc, ◌+◌, ◌-◌, ◌≤◌, ◌<◌}
use native.Mathlib.Omega.{arith}
use lib.Dec.{leb}
use borrow.Author.Tests.{leb-true, le-leb, lt-leb}
use Rattle.facts.proofs.Tests.{passed}
use Rattle.pool.specs.Rules.{pool_ok, node_number}
use Rattle.pool_check.proofs.Number.{good-node, first-refusal, accepted}
use Rattle.wide.specs.declared.Wide.{Wide}
use Rattle.wide.specs.Number.{words, num}
use Rattle.evaluate.specs.Visits.{visits_at}
use Rattle.evaluate.specs.Step.{held, Visited}
use Rattle.evaluate.specs.Answer.{evaluate_number, no_value, Answered, MoreVisits, WithinAllowance}

module _ (ws regs : List ℕ) (count n allowance : ℕ) where
  refusal : (k : ℕ) → evaluate_number ws regs count n allowance ≡ suc k → Answered ws regs count n allowance (no_value (suc k))
  unfolding words
  refusal k e = record { number_is = sym e; value_is = rw e; visits_is = rw e }

  -- a bad pool or a node that it has not
  pub bad : (k : ℕ) → k ≡ node_number ws count n 0 → 0 < k → Answered ws regs count n allowance (no_value k)
  bad k e h = go k h (sym (e ∙ first-refusal ws count n _ (rw e at h)))
    where
      go : (k : ℕ) → 0 < k → evaluate_number ws regs count n allowance ≡ k → Answered ws regs count n allowance (no_value k)
      go zero h z = absurd (omega (arith, h))
      go (suc k) h z = refusal k z

  module _ (h : pool_ok ws count ≡ true) (l : n < count) {out : List ℕ} {left : ℕ} (v : Visited ws regs n allowance out left) where
    pub too_many : left ≡ 0 → Answered ws regs count n allowance (no_value 11)
    too_many e = refusal 10 (good-node ws count n _ h l ∙ rw (lt-leb (visits_at ws regs n) allowance (omega (arith, v.left_is))))

    enough : (left ≡ 0 → ⊥) → evaluate_number ws regs count n allowance ≡ 0
    enough e = good-node ws count n _ h l ∙ rw (le-leb (visits_at ws regs n) allowance (omega (arith, v.left_is)))

    pub given : (left ≡ 0 → ⊥) → 1 ≤ visits_at ws regs n → (w : Wide) → num w ≡ held out
        → Answered ws regs count n allowance (record { number = 0; low = w.low; high = w.high; top = w.top; visits = allowance - left + 1 })
    given e s w same =
        let z = enough e in
        record { number_is = sym z; value_is = rw z (same ∙ v.value_is (omega arith)); visits_is = rw z (omega (arith, v.left_is)) }

-- number 0: each test is passed
by_tests : (ws regs : List ℕ) (count n allowance : ℕ) → evaluate_number ws regs count n allowance ≡ 0
    → (pool_ok ws count ≡ true) × (n < count) × (visits_at ws regs n ≤ allowance)
by_tests ws regs count n allowance z =
    let t = accepted ws count n _ z in
    (t.0, t.1, leb-true _ _ (passed (leb (visits_at ws regs n) allowance) eleven t.2).0)
  where
    eleven : ◌≡◌ {A = ℕ} 11 0 → ⊥
    eleven e = omega arith

pub more-visits : MoreVisits
more-visits ws regs count n a b r s l p q z =
    let za : evaluate_number ws regs count n a ≡ 0 = sym p.number_is ∙ z in
    let t = by_tests ws regs count n a za in
    let zb : evaluate_number ws regs count n b ≡ 0 = good-node ws count n _ t.0 t.1 ∙ rw (le-leb (visits_at ws regs n) b (omega (arith, t.2))) in
    (q.number_is ∙ zb, (rw zb at q.value_is) ∙ sym (rw za at p.value_is), (rw zb at q.visits_is) ∙ sym (rw za at p.visits_is))

pub within-allowance : WithinAllowance
within-allowance ws regs count n allowance r p = go (evaluate_number ws regs count n allowance) refl
  where
    go : (k : ℕ) → evaluate_number ws regs count n allowance ≡ k → r.visits ≤ allowance
    go zero z = let t = by_tests ws regs count n allowance z in let v = rw z at p.visits_is in omega (arith, t.2)
    go (suc k) z = let v = rw z at p.visits_is in omega arith
